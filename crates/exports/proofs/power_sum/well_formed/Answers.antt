-- There is a head where the words fit.
use Rattle.std.proofs.Common.{◌≡◌, Bool, true, false, List, refl, ap, ◌∙◌, is_ok}
use Rattle.rules.specs.Calls.{unless, given}
use Rattle.rules.specs.Words.{words_fit}
use Rattle.lent.specs.Refusals.{answered}
use Rattle.modint.specs.Width.{Width}
use Rattle.exports.specs.Heads.{head_parts, fitting}
use Rattle.exports.proofs.power_sum.well_formed.Goals as goal

told : {W : Type 0} (w : Width W) (words : List W) → is_ok (answered (head_parts w) (fitting w.kind (w.nums words))) ≡ words_fit w.kind (w.nums words)
told w words = by_test (words_fit w.kind (w.nums words))
  where
    by_test : (fit : Bool) → is_ok (answered (head_parts w) (unless fit 12 (given (w.nums words)))) ≡ fit
    by_test true = refl
    by_test false = refl

pub returns : goal.returns
returns g c = c.is_ok.ensures.value ∙ ap (λ r. is_ok r) c.head_of.ensures ∙ told g.W.Word.width c.args.s.now

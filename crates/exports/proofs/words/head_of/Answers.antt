-- The parts of words that fit, or the refusal.
use Rattle.std.proofs.Common.{◌≡◌, Bool, true, false, cond, Some, None, List, refl, ap, ◌∙◌}
use Rattle.std.specs.Option.{ok_or}
use Rattle.rules.specs.Calls.{unless, given}
use Rattle.rules.specs.Words.{words_fit}
use Rattle.lent.specs.declared.refusal.Refusal.TheVariants.{NotWellFormed}
use Rattle.lent.specs.Refusals.{answered}
use Rattle.modint.specs.Width.{Width}
use Rattle.exports.specs.Heads.{head_in, head_parts, fitting}
use Rattle.exports.proofs.words.head_of.Goals as goal

found : {W : Type 0} (w : Width W) (words : List W) → ok_or (head_in w words) NotWellFormed ≡ answered (head_parts w) (fitting w.kind (w.nums words))
unfolding head_in
found w words = by_test (words_fit w.kind (w.nums words))
  where
    by_test : (fit : Bool) → ok_or (cond fit (Some (head_parts w (w.nums words))) None) NotWellFormed ≡ answered (head_parts w) (unless fit 12 (given (w.nums words)))
    by_test true = refl
    by_test false = refl

pub returns : goal.returns
returns g c = c.ok_or.ensures.value ∙ ap (λ o. ok_or o NotWellFormed) c.find_head.ensures ∙ found g.W.Word.width c.args.words.now

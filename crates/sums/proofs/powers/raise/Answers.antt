-- One store.
use Rattle.std.proofs.Common.{ℕ, ap, sym, ◌∙◌, set}
use Rattle.rules.specs.Field.{plus}
use Rattle.rules.specs.Sums.{raised_at}
use Rattle.modint.proofs.Width.{nums_at, nums_set}
use Rattle.sums.proofs.powers.raise.Goals as goal

pub returns : goal.returns
unfolding raised_at
returns g c =
    let w = g.W.Word.width in
    let l = c.args.sums.now in
    let k = c.args.k in
    let sum = nums_at w l k c.index-sums-k.result 0 c.requires ∙ ap w.num (sym c.index-sums-k.is) in
    let next = c.plus.ensures ∙ ap (λ (s : ℕ). plus w.kind s (w.num c.args.y)) (sym sum) in
    nums_set w l k c.plus.result ∙ ap (set (w.nums l) k) next

-- The greatest of the first k, and then of one more.
use Rattle.rules.proofs.Most.{Most}
use Rattle.modint.proofs.slices.greatest.Given as goal

abbrev pub invariant-loop-here : goal.invariant-loop-here
invariant-loop-here g l = let w = g.W.Word.width in Most (w.nums l.numbers) (w.num l.most) l.here-index

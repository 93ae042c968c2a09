-- One entry a turn, whatever its value is the value of.
use Rattle.rules.proofs.Listing.{Zeroing}
use Rattle.polynomial.proofs.evaluator.put_zeros.Given as goal

abbrev pub invariant-loop-j : goal.invariant-loop-j
invariant-loop-j g l = let w = g.W.Word.width in Zeroing (w.nums l.log) (w.nums l.values) (w.nums l.initial.out) (w.nums l.out) l.n l.j

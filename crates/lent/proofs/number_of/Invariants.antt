-- The bytes weighed, the lowest first.
use Rattle.lent.proofs.Bytes.{Weighing}
use Rattle.lent.proofs.number_of.Given as goal

abbrev pub invariant-loop-byte : goal.invariant-loop-byte
invariant-loop-byte l = Weighing l.part l.byte-index-end l.sum l.weight l.byte-index

-- After i bytes, those of what is left are to be written.
use Rattle.lent.proofs.Bytes.{Filling}
use Rattle.lent.proofs.put_number.Given as goal

abbrev pub invariant-loop-byte : goal.invariant-loop-byte
invariant-loop-byte l = Filling l.x l.fn.part l.byte-items l.rest l.byte-index

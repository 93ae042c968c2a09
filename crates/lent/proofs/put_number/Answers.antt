-- A byte written, and the rest after it; after the last byte the part holds the number.
use Rattle.std.proofs.Common.{refl}
use Rattle.lent.proofs.Bytes.{filling_turn, filling_done}
use Rattle.lent.proofs.put_number.Goals as goal

pub loop-byte-preserved : goal.loop-byte-preserved
loop-byte-preserved c = filling_turn c.loop-byte.invariant c.loop-byte-test.true refl refl

pub returns : goal.returns
returns c = filling_done c.loop-byte.invariant c.loop-byte-test.false

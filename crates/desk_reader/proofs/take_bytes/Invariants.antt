-- The bytes so far have led where the reading stands.
use Rattle.std.proofs.Common.{◌≡◌, take}
use Rattle.desk_reader.specs.Reader.{standing, reading, fed_of}
use Rattle.desk_reader.proofs.take_bytes.Given as goal

abbrev pub invariant-loop-b : goal.invariant-loop-b
invariant-loop-b l =
    standing (reading l.desk l.line) l.log l.got ≡ fed_of (standing l.fn.r l.fn.log l.fn.got) (take l.b-index l.piece)

-- One number a turn.
use Rattle.rules.proofs.Bytes.{Putting}
use Rattle.sums.proofs.packet.put_numbers.Given as goal

abbrev pub invariant-loop-k : goal.invariant-loop-k
invariant-loop-k g l = let w = g.W.Word.width in Putting w.kind.code_bytes (w.nums l.numbers) l.fn.part l.part l.k

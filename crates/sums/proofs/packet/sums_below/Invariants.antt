-- The greatest of the first k, and then of one more.
use Rattle.rules.specs.Packet.{all_numbers}
use Rattle.rules.proofs.Most.{Most}
use Rattle.sums.proofs.packet.sums_below.Given as goal

abbrev pub invariant-loop-k : goal.invariant-loop-k
invariant-loop-k g l = let w = g.W.Word.width in Most (all_numbers w.kind.code_bytes l.n l.part) (w.num l.most) l.k

-- One number a turn.
use Rattle.std.proofs.Common.{ℕ, length}
use Rattle.rules.specs.Packet.{all_numbers}
use Rattle.rules.proofs.Mapping.{Mapping}
use Rattle.sums.proofs.packet.put_sums.Given as goal

abbrev pub invariant-loop-k : goal.invariant-loop-k
invariant-loop-k g l =
    let w = g.W.Word.width in
    let n = length l.fn.sums in
    Mapping (λ (n : ℕ). n) n (all_numbers w.kind.code_bytes n l.part) (w.nums l.fn.sums) (w.nums l.sums) l.k

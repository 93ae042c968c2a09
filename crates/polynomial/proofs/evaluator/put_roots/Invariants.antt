-- One block a turn, over the front of what is left of the buffer.
use Rattle.std.proofs.Common.{◌≡◌, ℕ, eqb, min, length, take}
use Rattle.std.specs.Slice.Iter.{chunks_rest, chunks_size}
use Rattle.rules.specs.Decode.{evaluate}
use Rattle.polynomial.proofs.Blocks.{Blocks}
use Rattle.polynomial.proofs.evaluator.put_roots.Given as goal

abbrev pub invariant-loop-block : goal.invariant-loop-block
invariant-loop-block g l =
    let w = g.W.Word.width in
    let i = goal.iterator-loop-block g in
    let entries = take (min (length l.log) (length l.initial.out)) l.log in
    Blocks w (λ (c : ℕ). eqb (evaluate w.kind (w.nums l.coeffs) c) 0) entries l.initial.out (chunks_rest l.block-iterator) l.out l.n
    × (chunks_size l.block-iterator ≡ 64) × i.can_next l.block-iterator × i.is_finite l.block-iterator

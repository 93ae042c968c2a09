-- One block a turn, over the front of what is left of the buffer.
use Rattle.std.proofs.Common.{ℕ, ◌≡◌, ◌<◌, List, min, length, take, sym, ap, ◌∙◌, arith}
use Rattle.std.specs.Slice.Iter.{chunks_rest, chunks_size}
use Rattle.rules.proofs.Listing.{take_within, no_roots}
use Rattle.modint.specs.Width.{Width}
use Rattle.modint.proofs.Width.{nums_length, nums_take}
use Rattle.polynomial.proofs.Blocks.{blocks_turn, blocks_done}
use Rattle.polynomial.proofs.Empty.{none}
use Rattle.polynomial.proofs.evaluator.put_roots.Goals as goal

-- The entries that the buffer has places for.
entries : {W : Type 0} (w : Width W) (log : List W) (places : ℕ) → w.nums (take (min (length log) places) log) ≡ take places (w.nums log)
entries w log places =
    nums_take w (min (length log) places) log
    ∙ take_within (w.nums log) places (min (length log) places) (ap (λ (n : ℕ). min n places) (sym (nums_length w log)))

pub returns-then-is_empty : goal.returns-then-is_empty
returns-then-is_empty g c =
    let w = g.W.Word.width in
    let cs = c.args.coeffs.now in
    let empty = nums_length w cs ∙ none (length cs) c.is_empty.ensures c.if-is_empty.true in
    let e = no_roots w.kind (w.nums cs) (take (length c.args.out.now) (w.nums c.args.log.now)) empty in
    record { many = rw e; buffer = rw e }

pub loop-block-preserved : goal.loop-block-preserved
loop-block-preserved g c =
    let i = c.loop-block.invariant in
    let step = c.in-Some.ensures.steps in
    let size : chunks_size c.next.new.self ≡ 64 = step.0 ∙ i.1 in
    let some : 0 < chunks_size c.next.new.self = omega (arith, size) in
    let block = c.in-Some.block.now in
    let rest = chunks_rest c.next.new.self in
    let put = c.put_block-n in
    (blocks_turn g.W.Word.width _ _ _ block rest put.new.out put.result i.0 step.1.0 put.ensures.listed put.ensures.few, size, some, tt)

pub returns : goal.returns
returns g c =
    let w = g.W.Word.width in
    let all = blocks_done w _ _ _ c.loop-block.invariant.0 c.in-None.ensures.steps.1.0 in
    let e = entries w c.args.log.now (length c.args.out.now) in
    record { many = rw e at all.0; buffer = rw e at all.1 }

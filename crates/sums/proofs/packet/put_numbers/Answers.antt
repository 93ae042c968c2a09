-- One number a turn.
use Rattle.std.proofs.Common.{◌≡◌, ◌+◌, ◌-◌, ◌*◌, ◌<◌, sym, ap, ◌∙◌, length, arith}
use borrow.Rule.Slice.PartMut.{mid_len}
use Rattle.rules.proofs.Bytes.{putting_start, putting_room, putting_turn}
use Rattle.modint.proofs.Width.{nums_length, nums_at}
use Rattle.sums.proofs.packet.put_numbers.Goals as goal

pub loop-k-init : goal.loop-k-init
loop-k-init g c = putting_start (rw (nums_length g.W.Word.width c.args.numbers.now) c.requires)

pub loop-k-preserved : goal.loop-k-preserved
loop-k-preserved g c =
    let w = g.W.Word.width in
    let b = w.kind.code_bytes in
    let k = c.loop-k.k in
    let l = c.args.numbers.now in
    let first : c.CODE_BYTES.result ≡ b = c.CODE_BYTES.ensures ∙ g.met.W.Word.bytes in
    let second : c.CODE_BYTES-in-loop-k.result ≡ b = c.CODE_BYTES-in-loop-k.ensures ∙ g.met.W.Word.bytes in
    let more : k < length (w.nums l) = rw (nums_length w l) c.loop-k-test.true in
    let size : k * b + b - k * b ≡ b = omega arith in
    let long = mid_len (k * b) (k * b + b) c.loop-k.part (putting_room c.loop-k.invariant more) in
    let here = c.number.ensures.number ∙ ap w.num c.index-numbers-k.is ∙ sym (nums_at w l k c.index-numbers-k.result 0 c.loop-k-test.true) in
    rw (first, second) (putting_turn c.loop-k.invariant more here (long ∙ size) size (rw (first, second) at c.put_number.ensures))

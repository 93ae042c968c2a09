-- Two tests say that the buffer is shorter than the packet, the second without a product that might not fit.
use Rattle.std.proofs.Common.{ℕ, suc, ◌≡◌, ◌<◌, ◌-◌, ◌*◌, ◌/◌, ap, length, arith}
use Rattle.std.proofs.Math.Nat.{mod-lt, mul-le-mul_right, div-add-mod'}
use Rattle.rules.specs.Packet.{packet, sums_at}
use Rattle.rules.specs.Calls.{fitting, refused}
use Rattle.rules.proofs.Packet.{packet_length_lem}
use Rattle.rules.proofs.Bytes.{fitting_short}
use Rattle.modint.specs.Answers.{val}
use Rattle.modint.proofs.Width.{nums_length}
use Rattle.sums.proofs.packet.put_packet.Given.{Over}
use Rattle.sums.proofs.packet.put_packet.Goals.{Joined-then-room-at, then-room-at-via-then-room-at, then-room-at-via-else-room-at+then-sums_in-sums}
use Rattle.sums.proofs.packet.put_packet.Goals as goal

-- Fewer sums than there are take more bytes than are left.
longer : (b left n : ℕ) → 0 < b → left / b < n → left < n * b
longer b left n some few =
    omega (arith, div-add-mod' left b, mod-lt left {m = b} some, mul-le-mul_right {m = suc (left / b)} {n = n} b few)

-- Either test says that the packet is longer than the buffer.
short : (g : Over) (c : Joined-then-room-at g) → let w = g.W.Word.width in
    fitting (packet w.kind c.args.count (val w c.args.last) (w.nums c.args.sums.now)) (length c.args.buf.now) ≡ refused 5
short g c =
    let w = g.W.Word.width in
    let k = w.kind in
    let buf = c.args.buf.now in
    let sums = c.args.sums.now in
    let size = packet_length_lem k c.args.count (val w c.args.last) (w.nums sums) in
    let long = nums_length w sums in
    let bytes = ap (λ (n : ℕ). n * k.code_bytes) long in
    let at = c.sums_at-at.ensures in
    fitting_short (packet k c.args.count (val w c.args.last) (w.nums sums)) {room = length buf} size (elim c.then-room-at.branch [
      | then-room-at-via-then-room-at v ↦ omega (arith, at, v.if-room-at.true)
      | then-room-at-via-else-room-at+then-sums_in-sums v ↦
          let few : (length buf - sums_at k) / k.code_bytes < length sums = rw (← v.sums_in.ensures) v.if-sums_in-sums.true in
          omega (arith, at, v.if-room-at.false, bytes, longer k.code_bytes (length buf - sums_at k) (length sums) k.some_byte few)
    ])

pub returns-then-room-at : goal.returns-then-room-at
returns-then-room-at g c = record { answer = rw (short g c); buffer = rw (short g c) }

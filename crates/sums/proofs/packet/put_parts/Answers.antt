-- The count, the last code and the sums, one behind the other.
use Rattle.std.proofs.Common.{ℕ, ◌≡◌, ◌+◌, ◌-◌, ◌*◌, ◌≤◌, sym, subst, ◌∙◌, ap, ap₂, List, ◌++◌, length, take, drop, arith}
use Rattle.std.proofs.Math.Seq.{length-take-le}
use borrow.Rule.Slice.PartMut.{put_mid, mid_len}
use Rattle.rules.specs.Kind.{count_bytes}
use Rattle.rules.specs.Packet.{bytes, all_bytes, sums_at, packet_length}
use Rattle.rules.proofs.Packet.{bytes_length, all_bytes_length}
use Rattle.rules.proofs.Bytes.{Front, front_part, front_more, front_length, front_packet}
use Rattle.modint.specs.Answers.{val}
use Rattle.modint.proofs.Width.{nums_length}
use Rattle.sums.proofs.packet.put_parts.Given.{Over}
use Rattle.sums.proofs.packet.put_parts.Goals.{After-put_numbers}
use Rattle.sums.proofs.packet.put_parts.Goals as goal

module _ (g : Over) (c : After-put_numbers g) where
  abbrev b : ℕ
  b = g.W.Word.width.kind.code_bytes

  abbrev x : ℕ
  x = val g.W.Word.width c.args.last

  abbrev sums : List ℕ
  sums = g.W.Word.width.nums c.args.sums.now

  at_is : c.sums_at-at.result ≡ sums_at g.W.Word.width.kind
  at_is = c.sums_at-at.ensures

  room : c.sums_at-at.result + length sums * b ≤ length c.args.buf.now
  room = omega (arith, at_is, ap (λ (n : ℕ). n * b) (nums_length g.W.Word.width c.args.sums.now), c.requires)

  abbrev counted : List ℕ
  counted = c.put_number.new.part ++ drop count_bytes c.args.buf.now

  -- The count stands at the front.
  count_put : Front count_bytes (bytes count_bytes c.args.count) c.args.buf.now counted
  count_put =
      let buf = c.args.buf.now in
      let some : count_bytes ≤ length buf = omega (arith, at_is, room) in
      let put = c.put_number.ensures ∙ ap₂ bytes (length-take-le count_bytes buf some) c.from.ensures in
      record { size = bytes_length count_bytes c.args.count; room = some; is = ap (λ (l : List ℕ). l ++ drop count_bytes buf) put }

  abbrev coded : List ℕ
  coded = put_mid count_bytes (c.sums_at-at.result - count_bytes) counted c.put_number-2.new.part

  -- The last code stands behind it.
  last_put : Front (sums_at g.W.Word.width.kind) (bytes count_bytes c.args.count ++ bytes b x) c.args.buf.now coded
  last_put =
      let size : c.sums_at-at.result - count_bytes ≡ b = omega (arith, at_is) in
      let long = mid_len count_bytes c.sums_at-at.result counted (omega (arith, front_length count_put, room)) in
      let code = c.number.ensures.number ∙ ap g.W.Word.width.num c.value.ensures in
      front_part (bytes b x) count_put (bytes_length b x) size (omega (arith, at_is, room)) (c.put_number-2.ensures ∙ ap₂ bytes (long ∙ size) code)

  -- The sums stand behind both.
  sums_put : Front (packet_length g.W.Word.width.kind (length sums)) ((bytes count_bytes c.args.count ++ bytes b x) ++ all_bytes b sums) c.args.buf.now
      (put_mid c.sums_at-at.result (length coded - c.sums_at-at.result) coded c.put_numbers.new.part)
  sums_put =
      let before = c.args.buf.now in
      let written : List ℕ = put_mid c.sums_at-at.result (length coded - c.sums_at-at.result) coded c.put_numbers.new.part in
      let codes = bytes count_bytes c.args.count ++ bytes b x in
      let last = subst (λ (a : ℕ). Front a codes before coded) (sym at_is) last_put in
      let behind = drop c.sums_at-at.result coded in
      let many = sym (nums_length g.W.Word.width c.args.sums.now) in
      let put = c.put_numbers.ensures ∙ ap (λ (n : ℕ). all_bytes b sums ++ drop (n * b) (take (length coded - c.sums_at-at.result) behind)) many in
      subst (λ (a : ℕ). Front (a + length sums * b) (codes ++ all_bytes b sums) before written) at_is
      (front_more (all_bytes b sums) last (all_bytes_length b sums) room put)

pub returns : goal.returns
returns g c =
    let w = g.W.Word.width in
    let put = sums_put g (goal.at.returns g c).After-put_numbers in
    rw (← nums_length w c.args.sums.now) (front_packet w.kind c.args.count (val w c.args.last) (w.nums c.args.sums.now) put)

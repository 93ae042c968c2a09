-- The sums go behind the head, and then the head.
use Rattle.std.proofs.Common.{◌≡◌, ℕ, ◌-◌, min, Err, List, length, take, drop, sym, refl, ap, ap₂, ◌∙◌, arith, rules}
use borrow.Rule.Slice.PartMut.{put_mid}
use Rattle.rules.specs.Sketch.{Sketch, code_or0}
use Rattle.rules.specs.Calls.{Outcome, refusal_of, written, read_for, sketch_or, sums_given}
use Rattle.rules.specs.Words.{head_words, read_in}
use Rattle.rules.proofs.Outcomes.{read_in_numbered, read_for_numbered}
use Rattle.rules.proofs.Words.{headed}
use Rattle.rules.proofs.ExportedPackets.{read_refuses, read_room, read_stores}
use Rattle.lent.specs.Refusals.{answered}
use Rattle.modint.specs.Answers.{val}
use Rattle.modint.proofs.Width.{nums_length}
use Rattle.sums.specs.declared.packet.PacketHead.{PacketHead}
use Rattle.sums.specs.Answers.{packet_head_of}
use Rattle.exports.proofs.Clauses.{stored, left_alone, refused_of, given_of, some_number}
use Rattle.exports.proofs.Fronts.{part, put_back}
use Rattle.exports.proofs.packet.deserialize.Given.{Over}
use Rattle.exports.proofs.packet.deserialize.Goals.{After-read}
use Rattle.exports.proofs.packet.deserialize.Goals as goal

module _ (g : Over) (c : After-read g) where
  -- Where the sums go: the words behind the head, and how many they are.
  many : length c.args.out.now - c.min-at.result ≡ length (g.W.Word.width.nums c.args.out.now) - c.min-at.result
  many = ap (λ (n : ℕ). n - c.min-at.result) (sym (nums_length g.W.Word.width c.args.out.now))

  at : c.min-at.result ≡ min (length (g.W.Word.width.nums c.args.out.now)) (head_words g.W.Word.width.kind)
  at = c.min-at.ensures ∙ ap₂ min (sym (nums_length g.W.Word.width c.args.out.now)) (c.HEAD.ensures ∙ g.met.W.Layout.head)

  abbrev behind : List ℕ
  behind = take (length c.args.out.now - c.min-at.result) (drop c.min-at.result (g.W.Word.width.nums c.args.out.now))

  behind_is : g.W.Word.width.nums (take (length c.args.out.now - c.min-at.result) (drop c.min-at.result c.args.out.now)) ≡ behind
  behind_is = part g.W.Word.width c.args.out.now refl refl

  places : length (take (length c.args.out.now - c.min-at.result) (drop c.min-at.result c.args.out.now)) ≡ length behind
  places = sym (nums_length g.W.Word.width _) ∙ ap length behind_is

  abbrev comes : Outcome Sketch
  comes = read_for g.W.Word.width.kind c.args.buf.now (length behind)

  answer : c.read.result ≡ answered (packet_head_of g.W.Word.width) comes
  answer = c.read.ensures.answer ∙ ap (λ (n : ℕ). answered (packet_head_of g.W.Word.width) (read_for g.W.Word.width.kind c.args.buf.now n)) places

  left : g.W.Word.width.nums c.read.new.sums ≡ written (sums_given comes) behind
  left =
      c.read.ensures.sums
      ∙ ap₂ (λ (n : ℕ) (l : List ℕ). written (sums_given (read_for g.W.Word.width.kind c.args.buf.now n)) l) places behind_is

pub returns-in_err-head : goal.returns-in_err-head
returns-in_err-head g c =
    let w = g.W.Word.width in
    let r = (goal.at.returns-in_err-head g c).After-read in
    let bs = c.args.buf.now in
    let to = w.nums c.args.out.now in
    let none = refused_of (packet_head_of w) (comes g r) (sym c.in_err-head.was ∙ answer g r) in
    let some = some_number (comes g r) (read_for_numbered w.kind bs (length (behind g r))) none.1.0 in
    let e : c.from_residual.result ≡ Err c.in_err-head.field-0.0 = search rules in
    let kept = read_refuses w.kind bs to (at g r) (many g r) some (sym (ap refusal_of none.1.0)) (left g r) in
    left_alone to (read_in w.kind bs (length c.args.out.now)) (e ∙ ap Err none.1.1) some (put_back w c.args.out.now c.read.new.sums _ refl)
    (rw (nums_length w c.args.out.now) at kept)

pub put_head-requires : goal.put_head-requires
put_head-requires g c =
    let w = g.W.Word.width in
    let r = (goal.at.put_head-requires g c).After-read in
    let found = given_of (packet_head_of w) (comes g r) (sym c.in_ok-head.was ∙ answer g r) in
    let threshold : c.in_ok-head.head.threshold ≡ (sketch_or (comes g r)).threshold =
    ap (λ (h : PacketHead _). h.threshold) found.1.1 ∙ sym (ap (λ (o : Outcome Sketch). (sketch_or o).threshold) found.1.0) in
    let room = read_room w.kind c.args.buf.now (w.nums c.args.out.now) (at g r) (many g r) (ap refusal_of found.1.0) threshold (left g r) in
    let over = put_mid c.min-at.result (length c.args.out.now - c.min-at.result) c.args.out.now c.read.new.sums in
    let long = sym (nums_length w over) ∙ ap length (put_back w c.args.out.now c.read.new.sums (length c.args.out.now - c.min-at.result) refl) in
    (omega (arith, room.0, long), room.1)

pub returns : goal.returns
returns g c =
    let w = g.W.Word.width in
    let r = (goal.at.returns g c).After-read in
    let bs = c.args.buf.now in
    let to = w.nums c.args.out.now in
    let found = given_of (packet_head_of w) (comes g r) (sym c.in_ok-head.was ∙ answer g r) in
    let given = sym (ap sketch_or found.1.0) in
    let threshold : c.in_ok-head.head.threshold ≡ (sketch_or (comes g r)).threshold =
    ap (λ (h : PacketHead _). h.threshold) found.1.1 ∙ ap (λ (s : Sketch). s.threshold) given in
    let count : c.in_ok-head.head.count ≡ (sketch_or (comes g r)).count =
    ap (λ (h : PacketHead _). h.count) found.1.1 ∙ ap (λ (s : Sketch). s.count) given in
    let last : w.num c.value.result ≡ code_or0 (sketch_or (comes g r)).last =
    ap w.num c.value.ensures ∙ ap (λ (h : PacketHead _). val w h.last) found.1.1 ∙ w.num_of _ ∙ ap (λ (s : Sketch). code_or0 s.last) given in
    let front = c.put_head.ensures ∙ ap (λ (l : List ℕ). headed w.kind l c.in_ok-head.head.threshold c.in_ok-head.head.count 1 (w.num c.value.result))
    (put_back w c.args.out.now c.read.new.sums _ refl) in
    let kept = read_stores w.kind bs to (at g r) (many g r) (ap refusal_of found.1.0) threshold (left g r) count refl last front in
    stored to (read_in w.kind bs (length c.args.out.now)) (read_in_numbered w.kind bs (length c.args.out.now)) refl refl (rw (nums_length w c.args.out.now) at kept)

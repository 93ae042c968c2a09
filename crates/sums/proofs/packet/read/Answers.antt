-- A packet that is not refused: its sums go to the places, and what it says beside them is answered.
use Rattle.std.proofs.Common.{ℕ, ◌≡◌, ◌*◌, ◌-◌, refl, ap, ◌∙◌, Ok, length, take, drop, length-drop, arith}
use Rattle.std.specs.Prelude.{Result}
use Rattle.std.proofs.Math.Nat.{div-add-mod'}
use Rattle.std.proofs.Math.Seq.{length-take-le}
use Rattle.std.proofs.lemmas.List.{take_rest}
use Rattle.rules.specs.Sketch.{Sketch}
use Rattle.rules.specs.Calls.{Outcome, refused, given, refusal_of, read_for}
use Rattle.rules.specs.Packet.{sums_at, sketch_in, sums_in, sums_of}
use Rattle.rules.proofs.Bytes.{Reads, read_unrefused}
use Rattle.rules.proofs.Packet.{all_numbers_length}
use Rattle.lent.specs.declared.refusal.Refusal.{Refusal}
use Rattle.lent.specs.Refusals.{answered}
use Rattle.modint.proofs.Width.{nums_drop, nums_append}
use Rattle.sums.proofs.packet.read.Given.{Over}
use Rattle.sums.proofs.packet.read.Goals.{After-sums_at}
use Rattle.sums.proofs.packet.read.Goals as goal

-- What is answered was given.
unrefused : {B : Type 0} (f : Sketch → B) (o : Outcome Sketch) {n : B} → ◌≡◌ {A = Result B Refusal} (Ok n) (answered f o) → refusal_of o ≡ 0
unrefused f (refused m) e = absurd (cc)
unrefused f (given s) e = refl

module _ (g : Over) (c : After-sums_at g) where
  -- The packet is read.
  reads : Reads g.W.Word.width.kind c.args.buf.now (length c.args.sums.now)
  reads =
      let k = g.W.Word.width.kind in
      let o = read_for k c.args.buf.now (length c.args.sums.now) in
      read_unrefused k c.args.buf.now (length c.args.sums.now) (unrefused (λ s. s.threshold) o c.in_ok-threshold.ensures)

  -- It has as many sums as the test said.
  as_many : c.in_ok-threshold.threshold ≡ sums_in g.W.Word.width.kind (length c.args.buf.now)
  unfolding sketch_in
  as_many =
      let there = sketch_in g.W.Word.width.kind c.args.buf.now in
      let said : ◌≡◌ {A = Result ℕ Refusal} (Ok c.in_ok-threshold.threshold) (answered (λ s. s.threshold) (given there)) =
      c.in_ok-threshold.ensures ∙ ap (answered (λ s. s.threshold)) reads.says in
      cc

  -- And as many places are lent.
  places : length (take c.in_ok-threshold.threshold c.args.sums.now) ≡ c.in_ok-threshold.threshold
  places = length-take-le c.in_ok-threshold.threshold c.args.sums.now (rw as_many reads.room)

pub slice_bounds-put_sums-count : goal.slice_bounds-put_sums-count
slice_bounds-put_sums-count g c = rw c.sums_at.ensures (reads g (goal.at.slice_bounds-put_sums-count g c).After-sums_at).long

pub slice_bounds-put_sums-start : goal.slice_bounds-put_sums-start
slice_bounds-put_sums-start g c = rw c.sums_at.ensures (reads g (goal.at.slice_bounds-put_sums-start g c).After-sums_at).long

pub put_sums-requires : goal.put_sums-requires
put_sums-requires g c =
    let k = g.W.Word.width.kind in
    let buf = c.args.buf.now in
    let e = (goal.at.put_sums-requires g c).After-sums_at in
    let bytes = ap (λ (n : ℕ). n * k.code_bytes) (as_many g e) in
    rw (places g e, c.sums_at.ensures, take_rest buf (sums_at k))
    (omega (arith, bytes, length-drop (sums_at k) buf, div-add-mod' (length buf - sums_at k) k.code_bytes))

pub number_at-requires : goal.number_at-requires
number_at-requires g c = (reads g (goal.at.number_at-requires g c).After-sums_at).long

pub returns : goal.returns
unfolding sketch_in
returns g c =
    let w = g.W.Word.width in
    let k = w.kind in
    let buf = c.args.buf.now in
    let sums = c.args.sums.now in
    let e = (goal.at.returns g c).After-sums_at in
    let says = (reads g e).says in
    let many = as_many g e in
    let put : w.nums c.put_sums.new.sums ≡ sums_of k buf =
    c.put_sums.ensures ∙ rw (places g e, c.sums_at.ensures, take_rest buf (sums_at k), many) in
    let long = all_numbers_length k.code_bytes (sums_in k (length buf)) (drop (sums_at k) buf) in
    record {
      answer = rw (says, many, c.count_of.ensures, c.reduce.ensures, c.number_at.ensures);
      sums = nums_append w c.put_sums.new.sums (drop c.in_ok-threshold.threshold sums) ∙ rw (says, put, nums_drop, many, long);
    }

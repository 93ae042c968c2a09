-- The tests in the order of the refusals, and then the packet.
use Rattle.std.proofs.Common.{◌≡◌, ℕ, List, min, true, map, length, sym, take, refl, ap, ◌∙◌, arith, take-take, rules, Option, Some, None, Ok, Err}
use Rattle.std.specs.Prelude.{ok_or}
use lib.ListN.{length-map}
use denote.Memory.{lone}
use Rattle.modint.specs.declared.Residue.{Residue}
use Rattle.modint.specs.Width.{Width}
use Rattle.modint.specs.Answers.{val}
use Rattle.modint.proofs.Width.{nums_take}
use Rattle.rules.specs.Packet.{packet}
use Rattle.rules.specs.Calls.{Outcome, refused, fitting, written}
use Rattle.rules.proofs.Bytes.{hint_malformed, hint_packed}
use Rattle.lent.specs.Refusals.{listed}
use Rattle.lent.specs.declared.refusal.Refusal.{Refusal}
use Rattle.lent.specs.declared.refusal.Refusal.TheVariants.{NoLastCode}
use Rattle.power_sum.specs.declared.power_sum.PowerSumQuack.{PowerSumQuack}
use Rattle.power_sum.specs.Answers.{view, well_formed_of, write_with_hint_of}
use Rattle.power_sum.proofs.Struct.{within}
use Rattle.power_sum.proofs.Sizes.{words_fit}
use Rattle.power_sum.proofs.Checked.{passed, failed, handed_on}
use Rattle.power_sum.proofs.Filled.{refusal}
use Rattle.power_sum.proofs.power_sum.PowerSumQuack.serialize_with_hint.Goals as goal

-- A last code that is asked for is none, which is refused, or there.
no_last : {A : Type 0} (last : Option A) {e : Refusal} → ok_or last NoLastCode ≡ Err e → (last ≡ None) × (e ≡ NoLastCode)
no_last None p = (refl, cc)
no_last (Some x) p = cc

some_last : {A : Type 0} (last : Option A) {x : A} → ok_or last NoLastCode ≡ Ok x → last ≡ Some x
some_last None p = cc
some_last (Some y) p = cc

-- No last code, or the packet with it.
module _ {W : Type 0} (w : Width W) (s : PowerSumQuack W) (ok : well_formed_of w s ≡ true) (h room : ℕ) where
  without : s.last ≡ None → write_with_hint_of w s h room ≡ refused 3
  unfolding write_with_hint_of
  without none = hint_packed w.kind (view w s) h room (min s.threshold h) ok refl ∙ rw none

  with_code : {x : Residue W} → s.last ≡ Some x → (n : ℕ) → n ≡ min s.threshold h
      → write_with_hint_of w s h room ≡ fitting (packet w.kind s.count (val w x) (take n (map (val w) s.sums))) room
  unfolding write_with_hint_of
  with_code last n e = hint_packed w.kind (view w s) h room n ok e ∙ rw (last, take-take n s.threshold (map (val w) s.sums) (omega arith))

pub returns-in_err-checked : goal.returns-in_err-checked
unfolding write_with_hint_of
returns-in_err-checked g c =
    let w = g.W.Word.width in
    let no = failed w c.args.self c.from_residual.result c.checked.ensures c.in_err-checked.was c.from_residual.ensures in
    let r = refusal c.args.buf.now (hint_malformed w.kind (view w c.args.self) c.args.hint (length c.args.buf.now) no.0) in
    record { answer = no.1 ∙ r.0; buffer = r.1 }

pub returns-in_err-last : goal.returns-in_err-last
returns-in_err-last g c =
    let w = g.W.Word.width in
    let s = c.args.self in
    let ok = passed w s c.checked.ensures c.in_ok-checked.was in
    let no = no_last s.last (sym c.ok_or.ensures.value ∙ c.in_err-last.was) in
    let r = refusal c.args.buf.now (without w s ok c.args.hint (length c.args.buf.now) no.0) in
    record { answer = handed_on c.from_residual-in_err-last.result c.from_residual-in_err-last.ensures ∙ rw no.1 r.0; buffer = r.1 }

pub shared_whole_as_front-put_packet : goal.shared_whole_as_front-put_packet
shared_whole_as_front-put_packet g c =
    let w = g.W.Word.width in
    let s = c.args.self in
    let ok = passed w s c.checked.ensures c.in_ok-checked.was in
    let full : length s.sums ≡ 32 = search rules in
    (omega (arith, c.min-n.ensures, within w s (full ∙ sym w.places) ok refl, length-map s.sums (val w), full), words_fit (lone g.row.W.mir) g.met.W.Word.small)

pub returns : goal.returns
returns g c =
    let w = g.W.Word.width in
    let s = c.args.self in
    let n = c.min-n.result in
    let room = length c.args.buf.now in
    let ok = passed w s c.checked.ensures c.in_ok-checked.was in
    let there = some_last s.last (sym c.ok_or.ensures.value ∙ c.in_ok-last.was) in
    let front = nums_take w n c.numbers-sums.result ∙ ap (take n) c.numbers-sums.ensures in
    let packs = ap (λ (l : List ℕ). fitting (packet w.kind s.count (val w c.in_ok-last.last) l) room) front
    ∙ sym (with_code w s ok c.args.hint room there n c.min-n.ensures) in
    record {
      answer = c.put_packet.ensures.answer ∙ ap listed packs;
      buffer = c.put_packet.ensures.buffer ∙ ap (λ (o : Outcome (List ℕ)). written o c.args.buf.now) packs;
    }

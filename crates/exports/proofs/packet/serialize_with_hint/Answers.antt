-- The tests in the order of the refusals, and then the packet.
use Rattle.std.proofs.Common.{◌≡◌, ℕ, min, Err, Ok, Some, None, Option, Result, List, length, refl, sym, ap, ◌∙◌, arith, rules}
use Rattle.std.specs.Option.{ok_or}
use Rattle.rules.specs.Field.{residue}
use Rattle.rules.specs.Sketch.{has_code, code_or0}
use Rattle.rules.specs.Packet.{packet}
use Rattle.rules.specs.Calls.{Outcome, fitting, written}
use Rattle.rules.specs.Words.{said_by, write_with_hint_in}
use Rattle.rules.proofs.ExportedPackets.{hint_misfit, hint_without, hint_fitting}
use Rattle.lent.specs.declared.refusal.Refusal.{Refusal}
use Rattle.lent.specs.declared.refusal.Refusal.TheVariants.{NoLastCode}
use Rattle.lent.specs.Refusals.{listed}
use Rattle.modint.specs.Answers.{val}
use Rattle.modint.proofs.Residues.{number}
use Rattle.exports.specs.Heads.{last_of}
use Rattle.exports.proofs.Clauses.{refuses_list}
use Rattle.exports.proofs.Fronts.{few_before, part}
use Rattle.exports.proofs.Heads.{Heads, heads, misfits}
use Rattle.exports.proofs.packet.serialize_with_hint.Given.{Over}
use Rattle.exports.proofs.packet.serialize_with_hint.Goals.{In_ok-head, In_ok-last}
use Rattle.exports.proofs.packet.serialize_with_hint.Goals as goal

-- What an option holds, or why there is none.
abbrev found : {A : Type 0} → Option A → Result A Refusal → Option A
found o (Ok x) = Some x
found o (Err e) = None

abbrev why : {A : Type 0} → Refusal → Result A Refusal → Refusal
why e (Ok x) = e
why e (Err e') = e'

module _ {A : Type 0} (e : Refusal) where
  absent : (o : Option A) {e' : Refusal} {r : Result A Refusal} → r ≡ ok_or o e → r ≡ Err e' → (o ≡ None) × (e' ≡ e)
  absent None is lacks = (refl, ap (why e) (sym lacks ∙ is))
  absent (Some x) {e'} is lacks = let y : Err e' ≡ Ok x = sym lacks ∙ is in cc

  present : (o : Option A) {x : A} {r : Result A Refusal} → r ≡ ok_or o e → r ≡ Ok x → o ≡ Some x
  present None {x} is has = let y : Ok x ≡ Err e = sym has ∙ is in cc
  present (Some y) is has = ap (found None) (sym is ∙ has)

head : (g : Over) (c : In_ok-head g) → Heads g.W.Word.width c.args.s.now c.in_ok-head.head
head g c = heads g.W.Word.width c.args.s.now c.head_of.ensures c.in_ok-head.was

pub returns-in_err-head : goal.returns-in_err-head
returns-in_err-head g c =
    let w = g.W.Word.width in
    let m = misfits w c.args.s.now c.head_of.ensures c.in_err-head.was in
    let e : c.from_residual.result ≡ Err c.in_err-head.field-0.0 = search rules in
    refuses_list c.args.buf.now (e ∙ ap Err m.1) (hint_misfit w.kind (w.nums c.args.s.now) c.args.hint (length c.args.buf.now) m.0)

pub returns-in_err-last : goal.returns-in_err-last
returns-in_err-last g c =
    let w = g.W.Word.width in
    let h = head g (goal.at.returns-in_err-last g c).In_ok-head in
    let none = absent NoLastCode c.in_ok-head.head.last c.ok_or.ensures.value c.in_err-last.was in
    let e : c.from_residual-in_err-last.result ≡ Err c.in_err-last.field-0.0 = search rules in
    refuses_list c.args.buf.now (e ∙ ap Err none.1) (hint_without w.kind (w.nums c.args.s.now) h.ok c.args.hint (length c.args.buf.now)
    (ap has_code (sym h.last) ∙ ap (λ o. has_code (last_of w o)) none.0))

pub overflow_add-end : goal.overflow_add-end
overflow_add-end g c =
    let w = g.W.Word.width in
    let h = head g (goal.at.overflow_add-end g c).In_ok-head in
    omega (arith, c.min.ensures, h.most, w.places, c.HEAD.ensures, g.met.W.Layout.head, few_before w.kind)

pub offset_bounds-s-HEAD : goal.offset_bounds-s-HEAD
offset_bounds-s-HEAD g c =
    let h = head g (goal.at.offset_bounds-s-HEAD g c).In_ok-head in
    omega (arith, h.enough, c.HEAD-2.ensures, g.met.W.Layout.head)

-- The first sums in use are there.
pub slice_bounds-put_packet-end : goal.slice_bounds-put_packet-end
slice_bounds-put_packet-end g c =
    let h = head g (goal.at.slice_bounds-put_packet-end g c).In_ok-head in
    omega (arith, c.min.ensures, h.enough, c.HEAD.ensures, g.met.W.Layout.head)

pub returns : goal.returns
returns g c =
    let w = g.W.Word.width in
    let ws = w.nums c.args.s.now in
    let room = length c.args.buf.now in
    let h = head g (goal.at.returns g c).In_ok-head in
    let said = sym h.last ∙ ap (last_of w) (present NoLastCode c.in_ok-head.head.last c.ok_or.ensures.value c.in_ok-last.was) in
    let code : val w c.reduce.result ≡ residue w.kind (code_or0 (said_by w.kind ws).last) =
    number w c.reduce.ensures ∙ ap (residue w.kind) (sym (ap code_or0 said)) in
    let packs = hint_fitting w.kind ws h.ok c.args.hint room (λ none. let x = sym (ap has_code said) ∙ none in omega (arith, x))
    (c.min.ensures ∙ ap (λ (k : ℕ). min k c.args.hint) h.threshold) h.count code (omega (arith, c.HEAD.ensures, c.HEAD-2.ensures)) in
    let sums = part w c.args.s.now (c.HEAD-2.ensures ∙ g.met.W.Layout.head) refl in
    let same : fitting (packet w.kind c.in_ok-head.head.count (val w c.reduce.result) _) room ≡ write_with_hint_in w.kind ws c.args.hint room =
    ap (λ (l : List ℕ). fitting (packet w.kind c.in_ok-head.head.count (val w c.reduce.result) l) room) sums ∙ sym packs in
    record {
      answer = c.put_packet.ensures.answer ∙ ap (λ (o : Outcome (List ℕ)). listed o) same;
      buffer = c.put_packet.ensures.buffer ∙ ap (λ (o : Outcome (List ℕ)). written o c.args.buf.now) same;
    }

-- The words of a fresh sketch less these.
use Rattle.std.proofs.Common.{◌≡◌, ℕ, true, Err, List, length, replicate, sym, ap, ap₂, ◌∙◌, arith, rules, le-leb}
use Rattle.rules.specs.Sketch.{in_range}
use Rattle.rules.specs.Calls.{Outcome, written}
use Rattle.rules.specs.Words.{new_in, sub_in, negate_in}
use Rattle.rules.proofs.Exported.{new_given}
use Rattle.rules.proofs.ExportedSurplus.{negate_misfit, negate_subtracts}
use Rattle.lent.specs.Refusals.{changed}
use Rattle.modint.proofs.Width.{nums_length}
use Rattle.exports.proofs.Heads.{Heads, heads, misfits}
use Rattle.exports.proofs.Clauses.{refuses, not_refused}
use Rattle.exports.proofs.Fronts.{few_before}
use Rattle.exports.proofs.surplus.negate.Given.{Over}
use Rattle.exports.proofs.surplus.negate.Goals.{In_ok-head}
use Rattle.exports.proofs.surplus.negate.Goals as goal

head : (g : Over) (c : In_ok-head g) → Heads g.W.Word.width c.args.s.now c.in_ok-head.head
head g c = heads g.W.Word.width c.args.s.now c.head_of.ensures c.in_ok-head.was

pub returns-in_err-head : goal.returns-in_err-head
returns-in_err-head g c =
    let w = g.W.Word.width in
    let m = misfits w c.args.s.now c.head_of.ensures c.in_err-head.was in
    let e : c.from_residual.result ≡ Err c.in_err-head.field-0.0 = search rules in
    refuses (w.nums c.args.out.now) (e ∙ ap Err m.1) (negate_misfit w.kind (w.nums c.args.s.now) m.0 (length c.args.out.now))

-- There is room for any sketch.
pub returns-in_err-new : goal.returns-in_err-new
returns-in_err-new g c =
    let w = g.W.Word.width in
    let h = head g (goal.at.returns-in_err-new g c).In_ok-head in
    let t = c.in_ok-head.head.threshold in
    let range : in_range w.kind t ≡ true =
    rw (le-leb 1 t (omega (arith, h.threshold, h.well.at_least)), le-leb t w.kind.greatest h.most) in
    let gives = new_given w.kind t 37 range (omega (arith, h.most, w.places, few_before w.kind)) in
    absurd (not_refused _ gives (sym c.in_err-new.was ∙ c.new.ensures.answer))

pub returns : goal.returns
returns g c =
    let w = g.W.Word.width in
    let ws = w.nums c.args.s.now in
    let places = length c.args.out.now in
    let h = head g (goal.at.returns g c).In_ok-head in
    let zeros = w.nums (replicate 37 c.zero-nothing.result) in
    let many : length zeros ≡ 37 = nums_length w (replicate 37 c.zero-nothing.result) in
    let less : sub_in w.kind (w.nums c.new.new.out) ws places ≡ negate_in w.kind ws places =
    ap (λ (l : List ℕ). sub_in w.kind l ws places)
    (c.new.ensures.words ∙ ap₂ (λ (t n : ℕ). written (new_in w.kind t n) zeros) h.threshold (sym many))
    ∙ negate_subtracts w.kind ws h.ok zeros (omega (arith, many, w.places, few_before w.kind)) places in
    record {
      answer = c.sub.ensures.answer ∙ ap (λ (o : Outcome (List ℕ)). changed o) less;
      words = c.sub.ensures.words ∙ ap (λ (o : Outcome (List ℕ)). written o (w.nums c.args.out.now)) less;
    }

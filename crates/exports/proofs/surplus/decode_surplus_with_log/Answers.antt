-- The tests in the order of the refusals, nothing where there is no surplus, and otherwise what the negated words decode.
use Rattle.std.proofs.Common.{◌≡◌, ℕ, ◌≤◌, Err, List, [], length, replicate, sym, refl, ap, ◌∙◌, arith, rules, w32}
use Rattle.std.proofs.lemmas.Int.{to_z-of_z}
use Rattle.rules.specs.Signed.{signed_count, below_zero}
use Rattle.rules.specs.Sketch.{surplus_in}
use Rattle.rules.specs.Calls.{Outcome, written}
use Rattle.rules.specs.Words.{said_by, negate_in, decode_in, decode_surplus_in}
use Rattle.rules.proofs.Outcomes.{surplus_malformed, surplus_over, surplus_short, surplus_none}
use Rattle.rules.proofs.ExportedSurplus.{negate_given, surplus_decodes}
use Rattle.lent.specs.Refusals.{listed}
use Rattle.modint.proofs.Width.{nums_length}
use Rattle.exports.proofs.Heads.{Heads, heads, misfits}
use Rattle.exports.proofs.Clauses.{refuses_list, lists, not_refused}
use Rattle.exports.proofs.Fronts.{few_before}
use Rattle.exports.proofs.surplus.decode_surplus_with_log.Given.{Over}
use Rattle.exports.proofs.surplus.decode_surplus_with_log.Goals.{After-below_zero-surplus}
use Rattle.exports.proofs.surplus.decode_surplus_with_log.Goals as goal

module _ (g : Over) (c : After-below_zero-surplus g) where
  head : Heads g.W.Word.width c.args.s.now c.in_ok-head.head
  head = heads g.W.Word.width c.args.s.now c.head_of.ensures c.in_ok-head.was

  -- What is tested against the threshold is the surplus.
  surplus_is : c.below_zero-surplus.result ≡ surplus_in (said_by g.W.Word.width.kind (g.W.Word.width.nums c.args.s.now))
  surplus_is =
      c.below_zero-surplus.ensures
      ∙ ap below_zero (to_z-of_z w32 c.signed.result (record { sfits = c.signed.type_inv }) ∙ c.signed.ensures ∙ ap signed_count head.count)

  -- Where that test passes, the surplus is no more.
  within : c.below_zero-surplus.result ≤ c.in_ok-head.head.threshold
      → let s = said_by g.W.Word.width.kind (g.W.Word.width.nums c.args.s.now) in surplus_in s ≤ s.threshold
  within t = omega (arith, surplus_is, head.threshold, t)

pub returns-in_err-head : goal.returns-in_err-head
unfolding decode_surplus_in
returns-in_err-head g c =
    let w = g.W.Word.width in
    let ws = w.nums c.args.s.now in
    let m = misfits w c.args.s.now c.head_of.ensures c.in_err-head.was in
    let e : c.from_residual.result ≡ Err c.in_err-head.field-0.0 = search rules in
    refuses_list (w.nums c.args.out.now) (e ∙ ap Err m.1)
    (surplus_malformed w.kind (said_by w.kind ws) (w.nums c.args.got.now) (length c.args.out.now) m.0)

pub returns-then-head-surplus : goal.returns-then-head-surplus
unfolding decode_surplus_in
returns-then-head-surplus g c =
    let w = g.W.Word.width in
    let ws = w.nums c.args.s.now in
    let b = (goal.at.returns-then-head-surplus g c).After-below_zero-surplus in
    refuses_list (w.nums c.args.out.now) refl
    (surplus_over w.kind (said_by w.kind ws) (w.nums c.args.got.now) (length c.args.out.now) (head g b).ok
    (omega (arith, surplus_is g b, (head g b).threshold, c.if-head-surplus.true)))

pub returns-then-out-got : goal.returns-then-out-got
unfolding decode_surplus_in
returns-then-out-got g c =
    let w = g.W.Word.width in
    let ws = w.nums c.args.s.now in
    let b = (goal.at.returns-then-out-got g c).After-below_zero-surplus in
    refuses_list (w.nums c.args.out.now) refl
    (surplus_short w.kind (said_by w.kind ws) (w.nums c.args.got.now) (length c.args.out.now) (head g b).ok (within g b c.if-head-surplus.false)
    (omega (arith, nums_length w c.args.got.now, c.if-out-got.true)))

pub returns-then-surplus-eq0 : goal.returns-then-surplus-eq0
unfolding decode_surplus_in
returns-then-surplus-eq0 g c =
    let w = g.W.Word.width in
    let ws = w.nums c.args.s.now in
    let b = (goal.at.returns-then-surplus-eq0 g c).After-below_zero-surplus in
    lists (w.nums c.args.out.now) {l = []} refl
    (surplus_none w.kind (said_by w.kind ws) (w.nums c.args.got.now) (length c.args.out.now) (head g b).ok (within g b c.if-head-surplus.false)
    (omega (arith, nums_length w c.args.got.now, c.if-out-got.false)) (sym (surplus_is g b) ∙ c.if-surplus-eq0.true)) refl refl

-- There is room for any sketch.
pub returns-in_err-negate : goal.returns-in_err-negate
returns-in_err-negate g c =
    let w = g.W.Word.width in
    let b = (goal.at.returns-in_err-negate g c).After-below_zero-surplus in
    let gives = negate_given w.kind (w.nums c.args.s.now) (head g b).ok 37 (omega (arith, w.places, few_before w.kind)) in
    absurd (not_refused _ gives (sym c.in_err-negate.was ∙ c.negate.ensures.answer))

pub returns : goal.returns
returns g c =
    let w = g.W.Word.width in
    let ws = w.nums c.args.s.now in
    let got = w.nums c.args.got.now in
    let places = length c.args.out.now in
    let b = (goal.at.returns g c).After-below_zero-surplus in
    let zeros = w.nums (replicate 37 c.zero-negated.result) in
    let many : length zeros ≡ 37 = nums_length w (replicate 37 c.zero-negated.result) in
    let decoded : decode_in w.kind (w.nums c.negate.new.out) got places ≡ decode_surplus_in w.kind ws got places =
    ap (λ (l : List ℕ). decode_in w.kind l got places)
    (c.negate.ensures.words ∙ ap (λ (n : ℕ). written (negate_in w.kind ws n) zeros) (sym many))
    ∙ surplus_decodes w.kind ws (head g b).ok zeros (omega (arith, many, w.places, few_before w.kind)) got places
    (λ z. c.if-surplus-eq0.false (surplus_is g b ∙ z)) (within g b c.if-head-surplus.false)
    (omega (arith, nums_length w c.args.got.now, c.if-out-got.false)) in
    record {
      answer = c.decode_with_log.ensures.answer ∙ ap (λ (o : Outcome (List ℕ)). listed o) decoded;
      buffer = c.decode_with_log.ensures.buffer ∙ ap (λ (o : Outcome (List ℕ)). written o (w.nums c.args.out.now)) decoded;
    }

-- The tests in the order of the refusals, and then the coefficients of the sums over the front of the buffer.
use Rattle.std.proofs.Common.{◌≡◌, ℕ, ◌++◌, Err, List, length, drop, refl, sym, ap, ap₂, ◌∙◌, arith, rules}
use Rattle.rules.specs.Decode.{coefficients}
use Rattle.rules.specs.Sums.{common}
use Rattle.rules.specs.Words.{said_by, coefficients_in}
use Rattle.rules.proofs.Recurrence.{coefficients_length}
use Rattle.rules.proofs.Outcomes.{coefficients_malformed, coefficients_over, coefficients_short, coefficients_given}
use Rattle.rules.proofs.Exported.{coefficients_stored}
use Rattle.modint.proofs.Width.{nums_length, nums_take, nums_drop, nums_append}
use Rattle.exports.proofs.Clauses.{refuses_list, lists}
use Rattle.exports.proofs.Fronts.{few_before, part}
use Rattle.exports.proofs.Heads.{Heads, heads, misfits}
use Rattle.exports.proofs.decoder.to_coeffs.Given.{Over}
use Rattle.exports.proofs.decoder.to_coeffs.Goals.{In_ok-head}
use Rattle.exports.proofs.decoder.to_coeffs.Goals as goal

head : (g : Over) (c : In_ok-head g) → Heads g.W.Word.width c.args.s.now c.in_ok-head.head
head g c = heads g.W.Word.width c.args.s.now c.head_of.ensures c.in_ok-head.was

pub returns-in_err-head : goal.returns-in_err-head
unfolding coefficients_in
returns-in_err-head g c =
    let w = g.W.Word.width in
    let m = misfits w c.args.s.now c.head_of.ensures c.in_err-head.was in
    let e : c.from_residual.result ≡ Err c.in_err-head.field-0.0 = search rules in
    refuses_list (w.nums c.args.coeffs.now) (e ∙ ap Err m.1)
    (coefficients_malformed w.kind (said_by w.kind (w.nums c.args.s.now)) (length c.args.coeffs.now) m.0)

pub returns-then-head-n : goal.returns-then-head-n
unfolding coefficients_in
returns-then-head-n g c =
    let w = g.W.Word.width in
    let h = head g (goal.at.returns-then-head-n g c).In_ok-head in
    refuses_list (w.nums c.args.coeffs.now) refl
    (coefficients_over w.kind (said_by w.kind (w.nums c.args.s.now)) h.ok (length c.args.coeffs.now) (omega (arith, h.count, h.threshold, c.if-head-n.true)))

pub returns-then-coeffs-n : goal.returns-then-coeffs-n
unfolding coefficients_in
returns-then-coeffs-n g c =
    let w = g.W.Word.width in
    let h = head g (goal.at.returns-then-coeffs-n g c).In_ok-head in
    refuses_list (w.nums c.args.coeffs.now) refl
    (coefficients_short w.kind (said_by w.kind (w.nums c.args.s.now)) h.ok (omega (arith, h.count, h.threshold, c.if-head-n.false)) (length c.args.coeffs.now)
    (omega (arith, h.count, c.if-coeffs-n.true)))

pub overflow_add-end : goal.overflow_add-end
overflow_add-end g c =
    let w = g.W.Word.width in
    omega (arith, (head g (goal.at.overflow_add-end g c).In_ok-head).most, w.places, c.HEAD.ensures, g.met.W.Layout.head, few_before w.kind)

pub offset_bounds-s-HEAD : goal.offset_bounds-s-HEAD
offset_bounds-s-HEAD g c =
    let h = head g (goal.at.offset_bounds-s-HEAD g c).In_ok-head in
    omega (arith, h.enough, c.HEAD-2.ensures, g.met.W.Layout.head)

pub slice_bounds-put_coefficients-end : goal.slice_bounds-put_coefficients-end
slice_bounds-put_coefficients-end g c =
    let h = head g (goal.at.slice_bounds-put_coefficients-end g c).In_ok-head in
    omega (arith, h.enough, c.HEAD.ensures, g.met.W.Layout.head)

pub returns : goal.returns
unfolding coefficients_in
returns g c =
    let w = g.W.Word.width in
    let ws = w.nums c.args.s.now in
    let to = c.args.coeffs.now in
    let n = c.in_ok-head.head.count in
    let h = head g (goal.at.returns g c).In_ok-head in
    let found = c.put_coefficients.ensures ∙ ap₂ (λ (l p : List ℕ). coefficients w.kind l (common l p) ++ drop (common l p) p)
    (part w c.args.s.now (c.HEAD-2.ensures ∙ g.met.W.Layout.head) refl) (nums_take w n to) in
    let solved = coefficients_stored w.kind ws h.ok (w.nums to) h.threshold h.count (omega (arith, c.HEAD.ensures, c.HEAD-2.ensures)) refl
    c.if-head-n.false (omega (arith, c.if-coeffs-n.false, nums_length w to)) found in
    lists (w.nums to) refl
    (coefficients_given w.kind (said_by w.kind ws) h.ok (omega (arith, h.count, h.threshold, c.if-head-n.false)) (length to)
    (omega (arith, h.count, c.if-coeffs-n.false)))
    (h.count ∙ sym (coefficients_length w.kind (said_by w.kind ws).sums (said_by w.kind ws).count))
    (nums_append w c.put_coefficients.new.coeffs (drop n to) ∙ ap₂ (λ (l m : List ℕ). l ++ m) solved (nums_drop w n to))

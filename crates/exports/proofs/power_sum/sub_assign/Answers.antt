-- The tests in the order of the refusals, and then the sums are subtracted where they stand.
use Rattle.std.proofs.Common.{◌≡◌, ℕ, Err, ◌++◌, List, drop, sym, refl, ap, ap₂, ◌∙◌, arith, rules}
use Rattle.rules.specs.Sums.{common, differences}
use Rattle.rules.specs.Words.{sub_assign_in}
use Rattle.rules.proofs.Outcomes.{sub_assign_in_numbered}
use Rattle.rules.proofs.Exported.{as_many, sub_assign_misfit, sub_assign_other, sub_assign_stores}
use Rattle.modint.proofs.Width.{nums_length}
use Rattle.exports.proofs.Clauses.{refuses, stored}
use Rattle.exports.proofs.Fronts.{few_before, less_counts, part, put_back}
use Rattle.exports.proofs.Heads.{Heads, heads, misfits}
use Rattle.exports.proofs.power_sum.sub_assign.Given.{Over}
use Rattle.exports.proofs.power_sum.sub_assign.Goals.{In_ok-head, In_ok-other}
use Rattle.exports.proofs.power_sum.sub_assign.Goals as goal

head : (g : Over) (c : In_ok-head g) → Heads g.W.Word.width c.args.s.now c.in_ok-head.head
head g c = heads g.W.Word.width c.args.s.now c.head_of.ensures c.in_ok-head.was

other : (g : Over) (c : In_ok-other g) → Heads g.W.Word.width c.args.rhs.now c.in_ok-other.other
other g c = heads g.W.Word.width c.args.rhs.now c.head_of-2.ensures c.in_ok-other.was

pub returns-in_err-head : goal.returns-in_err-head
returns-in_err-head g c =
    let w = g.W.Word.width in
    let ws = w.nums c.args.s.now in
    let vs = w.nums c.args.rhs.now in
    let m = misfits w c.args.s.now c.head_of.ensures c.in_err-head.was in
    let e : c.from_residual.result ≡ Err c.in_err-head.field-0.0 = search rules in
    refuses ws (e ∙ ap Err m.1) (sub_assign_misfit w.kind ws vs (rw m.0))

pub returns-in_err-other : goal.returns-in_err-other
returns-in_err-other g c =
    let w = g.W.Word.width in
    let ws = w.nums c.args.s.now in
    let vs = w.nums c.args.rhs.now in
    let h = head g (goal.at.returns-in_err-other g c).In_ok-head in
    let m = misfits w c.args.rhs.now c.head_of-2.ensures c.in_err-other.was in
    let e : c.from_residual-in_err-other.result ≡ Err c.in_err-other.field-0.0 = search rules in
    refuses ws (e ∙ ap Err m.1) (sub_assign_misfit w.kind ws vs (rw (h.ok, m.0)))

pub returns-then-head-other : goal.returns-then-head-other
returns-then-head-other g c =
    let w = g.W.Word.width in
    let at = goal.at.returns-then-head-other g c in
    let h = head g at.In_ok-head in
    let o = other g at.In_ok-other in
    refuses (w.nums c.args.s.now) refl
    (sub_assign_other w.kind (w.nums c.args.s.now) (w.nums c.args.rhs.now) h.ok o.ok (λ same. c.if-head-other.true (h.threshold ∙ same ∙ sym o.threshold)))

pub overflow_add-end : goal.overflow_add-end
overflow_add-end g c =
    let w = g.W.Word.width in
    omega (arith, (head g (goal.at.overflow_add-end g c).In_ok-head).most, w.places, c.HEAD.ensures, g.met.W.Layout.head, few_before w.kind)

-- The words before the sums are there, and the threshold is one of a sketch.
pub put_head-requires : goal.put_head-requires
put_head-requires g c = let h = head g (goal.at.put_head-requires g c).In_ok-head in (omega (arith, h.enough), h.most)

-- The words in use are still there, and the other's as many.
pub slice_bounds-subtract-end : goal.slice_bounds-subtract-end
slice_bounds-subtract-end g c =
    let w = g.W.Word.width in
    let h = head g (goal.at.slice_bounds-subtract-end g c).In_ok-head in
    let many = as_many w.kind (w.nums c.args.s.now) _ _ _ _ c.put_head.ensures in
    omega (arith, h.enough, nums_length w c.args.s.now, nums_length w c.put_head.new.words, many, c.HEAD.ensures, g.met.W.Layout.head)

pub offset_bounds-rhs-HEAD : goal.offset_bounds-rhs-HEAD
offset_bounds-rhs-HEAD g c =
    let o = other g (goal.at.offset_bounds-rhs-HEAD g c).In_ok-other in
    omega (arith, o.enough, c.HEAD-3.ensures, g.met.W.Layout.head)

pub slice_bounds-subtract-end-2 : goal.slice_bounds-subtract-end-2
slice_bounds-subtract-end-2 g c =
    let o = other g (goal.at.slice_bounds-subtract-end-2 g c).In_ok-other in
    omega (arith, o.enough, c.if-head-other.false, c.HEAD.ensures, g.met.W.Layout.head)

pub returns : goal.returns
returns g c =
    let w = g.W.Word.width in
    let ws = w.nums c.args.s.now in
    let vs = w.nums c.args.rhs.now in
    let at = goal.at.returns g c in
    let h = head g at.In_ok-head in
    let o = other g at.In_ok-other in
    let law = c.HEAD-2.ensures ∙ g.met.W.Layout.head in
    let law' = c.HEAD-3.ensures ∙ g.met.W.Layout.head in
    let after = c.put_head.new.words in
    let less = c.subtract.ensures ∙ ap₂ (λ (l o : List ℕ). differences w.kind l o ++ drop (common l o) l) (part w after law refl)
    (part w c.args.rhs.now law' (omega (arith, c.HEAD-2.ensures, c.HEAD-3.ensures))) in
    stored ws (sub_assign_in w.kind ws vs) (sub_assign_in_numbered w.kind ws vs) refl (put_back w after c.subtract.new.sums _ law)
    (sub_assign_stores w.kind ws vs h.ok o.ok (sym h.threshold ∙ c.if-head-other.false ∙ o.threshold) h.threshold
    (omega (arith, c.HEAD.ensures, c.HEAD-2.ensures)) (less_counts h.count o.count o.well.count_below) refl refl c.put_head.ensures less)

-- The tests in the order of the refusals, and then a head and the differences of the sums that both have.
use Rattle.std.proofs.Common.{◌≡◌, ℕ, ◌+◌, ◌≤◌, min, Err, length, refl, ap, ap₂, ◌∙◌, arith, rules}
use Rattle.rules.specs.Sums.{copied, differences}
use Rattle.rules.specs.Words.{head_words, sub_in}
use Rattle.rules.proofs.Outcomes.{sub_in_numbered}
use Rattle.rules.proofs.Exported.{sub_misfit, sub_short, sub_stores}
use Rattle.modint.proofs.Width.{nums_length}
use Rattle.exports.proofs.Clauses.{refuses, stored}
use Rattle.exports.proofs.Fronts.{few_before, less_counts, part, put_back}
use Rattle.exports.proofs.Heads.{Heads, heads, misfits}
use Rattle.exports.proofs.power_sum.sub.Given.{Over}
use Rattle.exports.proofs.power_sum.sub.Goals.{In_ok-head, In_ok-other}
use Rattle.exports.proofs.power_sum.sub.Goals as goal

head : (g : Over) (c : In_ok-head g) → Heads g.W.Word.width c.args.s.now c.in_ok-head.head
head g c = heads g.W.Word.width c.args.s.now c.head_of.ensures c.in_ok-head.was

other : (g : Over) (c : In_ok-other g) → Heads g.W.Word.width c.args.rhs.now c.in_ok-other.other
other g c = heads g.W.Word.width c.args.rhs.now c.head_of-2.ensures c.in_ok-other.was

pub returns-in_err-head : goal.returns-in_err-head
returns-in_err-head g c =
    let w = g.W.Word.width in
    let m = misfits w c.args.s.now c.head_of.ensures c.in_err-head.was in
    let e : c.from_residual.result ≡ Err c.in_err-head.field-0.0 = search rules in
    refuses (w.nums c.args.out.now) (e ∙ ap Err m.1) (sub_misfit w.kind (w.nums c.args.s.now) (w.nums c.args.rhs.now) (length c.args.out.now) (rw m.0))

pub returns-in_err-other : goal.returns-in_err-other
returns-in_err-other g c =
    let w = g.W.Word.width in
    let h = head g (goal.at.returns-in_err-other g c).In_ok-head in
    let m = misfits w c.args.rhs.now c.head_of-2.ensures c.in_err-other.was in
    let e : c.from_residual-in_err-other.result ≡ Err c.in_err-other.field-0.0 = search rules in
    refuses (w.nums c.args.out.now) (e ∙ ap Err m.1)
    (sub_misfit w.kind (w.nums c.args.s.now) (w.nums c.args.rhs.now) (length c.args.out.now) (rw (h.ok, m.0)))

pub overflow_add-end : goal.overflow_add-end
overflow_add-end g c =
    let w = g.W.Word.width in
    let h = head g (goal.at.overflow_add-end g c).In_ok-head in
    omega (arith, c.min-threshold.ensures, h.most, w.places, c.HEAD.ensures, g.met.W.Layout.head, few_before w.kind)

-- The smaller threshold.
least : {x y t u m : ℕ} → m ≡ min x y → x ≡ t → y ≡ u → m ≡ min t u
least e f g = e ∙ ap₂ min f g

pub returns-then-out-end : goal.returns-then-out-end
returns-then-out-end g c =
    let w = g.W.Word.width in
    let at = goal.at.returns-then-out-end g c in
    let h = head g at.In_ok-head in
    let o = other g at.In_ok-other in
    refuses (w.nums c.args.out.now) refl
    (sub_short w.kind (w.nums c.args.s.now) (w.nums c.args.rhs.now) h.ok o.ok (least c.min-threshold.ensures h.threshold o.threshold) (length c.args.out.now)
    (omega (arith, c.if-out-end.true, c.HEAD.ensures, g.met.W.Layout.head)))

-- The words before the sums are there, and the threshold is one of a sketch.
pub put_head-requires : goal.put_head-requires
put_head-requires g c =
    let h = head g (goal.at.put_head-requires g c).In_ok-head in
    (omega (arith, c.if-out-end.false, c.HEAD.ensures, g.met.W.Layout.head), omega (arith, c.min-threshold.ensures, h.most))

-- The words of both sketches are there.
pub offset_bounds-s-HEAD : goal.offset_bounds-s-HEAD
offset_bounds-s-HEAD g c =
    let h = head g (goal.at.offset_bounds-s-HEAD g c).In_ok-head in
    omega (arith, h.enough, c.HEAD-3.ensures, g.met.W.Layout.head)

pub slice_bounds-put_differences-end-2 : goal.slice_bounds-put_differences-end-2
slice_bounds-put_differences-end-2 g c =
    let h = head g (goal.at.slice_bounds-put_differences-end-2 g c).In_ok-head in
    omega (arith, c.min-threshold.ensures, h.enough, c.HEAD.ensures, g.met.W.Layout.head)

pub offset_bounds-rhs-HEAD : goal.offset_bounds-rhs-HEAD
offset_bounds-rhs-HEAD g c =
    let o = other g (goal.at.offset_bounds-rhs-HEAD g c).In_ok-other in
    omega (arith, o.enough, c.HEAD-4.ensures, g.met.W.Layout.head)

pub slice_bounds-put_differences-end-3 : goal.slice_bounds-put_differences-end-3
slice_bounds-put_differences-end-3 g c =
    let o = other g (goal.at.slice_bounds-put_differences-end-3 g c).In_ok-other in
    omega (arith, c.min-threshold.ensures, o.enough, c.HEAD.ensures, g.met.W.Layout.head)

pub returns : goal.returns
returns g c =
    let w = g.W.Word.width in
    let ws = w.nums c.args.s.now in
    let vs = w.nums c.args.rhs.now in
    let to = c.args.out.now in
    let at = goal.at.returns g c in
    let h = head g at.In_ok-head in
    let o = other g at.In_ok-other in
    let law = c.HEAD-2.ensures ∙ g.met.W.Layout.head in
    let after = c.put_head.new.words in
    let found = ap₂ (differences w.kind) (part w c.args.s.now (c.HEAD-3.ensures ∙ g.met.W.Layout.head) (omega (arith, c.HEAD-2.ensures, c.HEAD-3.ensures)))
    (part w c.args.rhs.now (c.HEAD-4.ensures ∙ g.met.W.Layout.head) (omega (arith, c.HEAD-2.ensures, c.HEAD-4.ensures))) in
    let less = c.put_differences.ensures ∙ ap₂ copied (part w after law refl) found in
    let room : head_words w.kind + c.min-threshold.result ≤ length (w.nums to) =
    omega (arith, c.if-out-end.false, c.HEAD.ensures, g.met.W.Layout.head, nums_length w to) in
    let kept = sub_stores w.kind ws vs h.ok o.ok (w.nums to) (least c.min-threshold.ensures h.threshold o.threshold)
    (omega (arith, c.HEAD.ensures, c.HEAD-2.ensures)) room (less_counts h.count o.count o.well.count_below) refl refl c.put_head.ensures less in
    stored (w.nums to) (sub_in w.kind ws vs (length to)) (sub_in_numbered w.kind ws vs (length to)) refl (put_back w after c.put_differences.new.places _ law)
    (rw (nums_length w to) at kept)

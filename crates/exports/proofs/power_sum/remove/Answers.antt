-- Words that do not fit are refused; otherwise the count and the last code are stored, and the powers are taken from the sums where they stand.
use Rattle.std.proofs.Common.{◌≡◌, ℕ, true, Err, List, refl, ap, ap₂, ◌∙◌, arith, rules}
use Rattle.rules.specs.Kind.{counts}
use Rattle.rules.specs.Field.{residue, difference}
use Rattle.rules.specs.Sketch.{has_code, code_or0, last_without}
use Rattle.rules.specs.Sums.{moved_by_powers}
use Rattle.rules.specs.Words.{said_by, remove_in}
use Rattle.rules.proofs.Outcomes.{remove_in_numbered}
use Rattle.rules.proofs.Words.{without_words}
use Rattle.rules.proofs.Exported.{as_many, remove_misfit, remove_stores}
use Rattle.modint.specs.Answers.{val}
use Rattle.modint.proofs.Residues.{number}
use Rattle.modint.proofs.Width.{nums_length}
use Rattle.exports.specs.Heads.{last_of}
use Rattle.exports.proofs.Clauses.{refuses, stored}
use Rattle.exports.proofs.Fronts.{few_before, part, put_back}
use Rattle.exports.proofs.Heads.{Heads, heads, misfits}
use Rattle.exports.proofs.power_sum.remove.Given.{Over}
use Rattle.exports.proofs.power_sum.remove.Goals.{In_ok-head}
use Rattle.exports.proofs.power_sum.remove.Goals as goal

head : (g : Over) (c : In_ok-head g) → Heads g.W.Word.width c.args.s.now c.in_ok-head.head
head g c = heads g.W.Word.width c.args.s.now c.head_of.ensures c.in_ok-head.was

pub returns-in_err-head : goal.returns-in_err-head
returns-in_err-head g c =
    let w = g.W.Word.width in
    let ws = w.nums c.args.s.now in
    let m = misfits w c.args.s.now c.head_of.ensures c.in_err-head.was in
    let e : c.from_residual.result ≡ Err c.in_err-head.field-0.0 = search rules in
    refuses ws (e ∙ ap Err m.1) (remove_misfit w.kind ws m.0 (w.num c.args.code))

pub overflow_add-end : goal.overflow_add-end
overflow_add-end g c =
    let w = g.W.Word.width in
    omega (arith, (head g (goal.at.overflow_add-end g c).In_ok-head).most, w.places, c.HEAD.ensures, g.met.W.Layout.head, few_before w.kind)

-- The words before the sums are there, and the threshold is one of a sketch.
pub put_head-requires : goal.put_head-requires
put_head-requires g c = let h = head g (goal.at.put_head-requires g c).In_ok-head in (omega (arith, h.enough), h.most)

-- The words in use are still there.
pub slice_bounds-shift_by_powers-end : goal.slice_bounds-shift_by_powers-end
slice_bounds-shift_by_powers-end g c =
    let w = g.W.Word.width in
    let h = head g (goal.at.slice_bounds-shift_by_powers-end g c).In_ok-head in
    let many = as_many w.kind (w.nums c.args.s.now) _ _ _ _ c.put_head.ensures in
    omega (arith, h.enough, nums_length w c.args.s.now, nums_length w c.put_head.new.words, many, c.HEAD.ensures, g.met.W.Layout.head)

pub returns : goal.returns
returns g c =
    let w = g.W.Word.width in
    let ws = w.nums c.args.s.now in
    let code = w.num c.args.code in
    let law = c.HEAD-2.ensures ∙ g.met.W.Layout.head in
    let h = head g (goal.at.returns g c).In_ok-head in
    let x = number w c.reduce-x.ensures in
    let after = c.put_head.new.words in
    let moved = c.shift_by_powers.ensures ∙ ap (λ (l : List ℕ). moved_by_powers w.kind true (val w c.reduce-x.result) l) (part w after law refl) in
    let kept : last_of w c.without-last.result ≡ last_without (said_by w.kind ws).last (residue w.kind code) =
    c.without-last.ensures ∙ ap₂ last_without h.last (ap w.num c.value-residue.ensures ∙ x) in
    let words = without_words (said_by w.kind ws).last (residue w.kind code) in
    stored ws (remove_in w.kind ws code) (remove_in_numbered w.kind ws code) refl (put_back w after c.shift_by_powers.new.sums _ law)
    (remove_stores w.kind ws h.ok code h.threshold (omega (arith, c.HEAD.ensures, c.HEAD-2.ensures)) (ap (λ (k : ℕ). difference counts k 1) h.count)
    (ap has_code kept ∙ words.0) (ap code_or0 kept ∙ words.1) c.put_head.ensures x moved)

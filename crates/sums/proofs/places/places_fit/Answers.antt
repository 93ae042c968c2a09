-- The test of the places in use, and the greatest of the others.
use Rattle.std.proofs.Common.{ℕ, ◌≡◌, sym, ◌∙◌, ap, ap₂, drop, min}
use Rattle.std.specs.Prelude.{◌&&◌, Bool}
use Rattle.std.proofs.Math.Dec.{eqb}
use Rattle.std.proofs.lemmas.List.{take_rest}
use Rattle.numbers.specs.Table.{every}
use Rattle.rules.specs.Sketch.{place_fits}
use Rattle.rules.specs.Sums.{greatest, all_below}
use Rattle.rules.proofs.Most.{places_split}
use Rattle.modint.proofs.Width.{nums_length, nums_take, nums_drop}
use Rattle.sums.proofs.places.places_fit.Given.{Over}
use Rattle.sums.proofs.places.places_fit.Goals.{After-all_below}
use Rattle.sums.proofs.places.places_fit.Goals as goal

-- The rule, from the two tests.
split : (g : Over) (c : After-all_below g) → let w = g.W.Word.width in
    every (place_fits w.kind c.args.threshold) 0 (w.nums c.args.places.now)
    ≡ c.all_below.result && eqb (greatest (w.nums (drop c.min-used.result c.args.places.now))) 0
split g c =
    let w = g.W.Word.width in
    let l = c.args.places.now in
    let used = c.min-used.result in
    places_split w.kind c.args.threshold used (w.nums l) (c.min-used.ensures ∙ ap (min c.args.threshold) (sym (nums_length w l)))
    ∙ ap₂ (λ (below : Bool) (n : ℕ). below && eqb n 0)
    (sym (c.all_below.ensures ∙ ap (all_below w.kind) (nums_take w used l)))
    (ap greatest (sym (nums_drop w used l)))

pub returns-then-all_below : goal.returns-then-all_below
returns-then-all_below g c =
    let w = g.W.Word.width in
    let l = c.args.places.now in
    let rest = c.greatest.ensures ∙ ap (λ m. greatest (w.nums m)) (take_rest l c.min-used.result) in
    c.eq.ensures ∙ g.met.W.Word.same _ _ ∙ ap₂ eqb rest c.zero.ensures
    ∙ sym (split g (goal.at.returns-then-all_below g c).After-all_below ∙ rw c.if-all_below.true)

pub returns-else-all_below : goal.returns-else-all_below
returns-else-all_below g c = sym (split g (goal.at.returns-else-all_below g c).After-all_below ∙ rw c.if-all_below.false)

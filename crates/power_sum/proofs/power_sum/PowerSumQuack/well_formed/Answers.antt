-- The three tests, one after the other.
use Rattle.std.proofs.Common.{◌≡◌, sym, map, ◌∙◌}
use Rattle.std.specs.Prelude.{◌&&◌}
use Rattle.numbers.specs.Table.{every}
use Rattle.modint.specs.Answers.{val}
use Rattle.rules.specs.Sketch.{in_range, place_fits, well_formed}
use Rattle.power_sum.proofs.power_sum.PowerSumQuack.well_formed.Goals.{then-in_range, else-in_range}
use Rattle.power_sum.proofs.power_sum.PowerSumQuack.well_formed.Goals as goal

pub returns-then-places_fit : goal.returns-then-places_fit
unfolding well_formed
returns-then-places_fit g c =
    let w = g.W.Word.width in
    let s = c.args.self in
    let both : c.if-in_range.value ≡ in_range w.kind s.threshold && every (place_fits w.kind s.threshold) 0 (map (val w) s.sums) =
    elim c.if-in_range.branch [
      | then-in_range t ↦ t.value-is ∙ t.places_fit.ensures ∙ rw (t.numbers.ensures, sym c.in_range.ensures ∙ t.if-in_range.true)
      | else-in_range f ↦ f.value-is ∙ rw (sym c.in_range.ensures ∙ f.if-in_range.false) f.if-in_range.false
    ] in
    rw (sym both ∙ c.if-places_fit.true) c.last_fits.ensures

pub returns-else-places_fit : goal.returns-else-places_fit
unfolding well_formed
returns-else-places_fit g c =
    let w = g.W.Word.width in
    let s = c.args.self in
    let both : c.if-in_range.value ≡ in_range w.kind s.threshold && every (place_fits w.kind s.threshold) 0 (map (val w) s.sums) =
    elim c.if-in_range.branch [
      | then-in_range t ↦ t.value-is ∙ t.places_fit.ensures ∙ rw (t.numbers.ensures, sym c.in_range.ensures ∙ t.if-in_range.true)
      | else-in_range f ↦ f.value-is ∙ rw (sym c.in_range.ensures ∙ f.if-in_range.false) f.if-in_range.false
    ] in
    rw (sym both ∙ c.if-places_fit.false) c.if-places_fit.false

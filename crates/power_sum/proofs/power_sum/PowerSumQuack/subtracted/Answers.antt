-- The differences of the sums that both have go to places of zeros.
use Rattle.std.proofs.Common.{◌≡◌, ℕ, ◌<◌, ◌≤◌, ◌%◌, min, true, List, ◌++◌, map, length, take, drop, replicate, refl, ◌∙◌, sym, arith, rules}
use Rattle.std.specs.Prelude.{◌&&◌}
use Rattle.std.proofs.Math.Nat.{mod-eq_of_lt}
use lib.ListN.{length-map}
use denote.Memory.{lone}
use Rattle.modint.specs.Width.{Width}
use Rattle.modint.specs.Answers.{val}
use Rattle.modint.proofs.Width.{nums_take, nums_drop, nums_append}
use Rattle.rules.specs.Kind.{counts}
use Rattle.rules.specs.Sketch.{subtract, placed}
use Rattle.rules.specs.Sums.{copied, differences}
use Rattle.rules.proofs.Each.{and_first, and_second}
use Rattle.rules.proofs.WellFormed.{subtracted_below, placed_below, placed_differences}
use Rattle.power_sum.specs.declared.power_sum.PowerSumQuack.{PowerSumQuack}
use Rattle.power_sum.specs.Answers.{view, well_formed_of}
use Rattle.power_sum.proofs.Struct.{within, zeros}
use Rattle.power_sum.proofs.Sizes.{words_fit, sketch_fits}
use Rattle.power_sum.proofs.power_sum.PowerSumQuack.subtracted.Goals as goal

module _ {W : Type 0} (w : Width W) where
  -- A struct that passes the test has a threshold that is not above the greatest.
  few : (s : PowerSumQuack W) → length s.sums ≡ w.kind.greatest → well_formed_of w s ≡ true → s.threshold ≤ w.kind.greatest
  few s full ok = omega (arith, within w s full ok refl, length-map s.sums (val w), full)

  module _ (s o : PowerSumQuack W) (full : length s.sums ≡ 32) (all : length o.sums ≡ 32) (ok : well_formed_of w s && well_formed_of w o ≡ true) where
    mine : well_formed_of w s ≡ true
    mine = and_first (well_formed_of w s) _ ok

    -- The smaller threshold is not above the places.
    room : {n : ℕ} → n ≡ min s.threshold o.threshold → n ≤ 32
    room e = omega (arith, e, few s (full ∙ sym w.places) mine, w.places)

    -- The places after the loop are those of the difference.
    changed : {z : W} {ys ss os : List W} {n : ℕ} → w.num z ≡ 0 → n ≡ min s.threshold o.threshold → w.nums ss ≡ map (val w) s.sums → w.nums os ≡ map (val w) o.sums
        → w.nums ys ≡ copied (w.nums (take n (replicate 32 z))) (differences w.kind (w.nums ss) (w.nums os))
        → w.nums (ys ++ drop n (replicate 32 z)) ≡ placed w.kind (subtract w.kind (view w s) (view w o)).sums
    unfolding subtract
    changed {z} {ys} {n = n} zero en es eo put =
        rw (nums_append w ys (drop n (replicate 32 z)), put, es, eo, nums_take w n (replicate 32 z), nums_drop w n (replicate 32 z), zeros w zero)
        (placed_differences w.kind n s.threshold o.threshold (map (val w) s.sums) (map (val w) o.sums) en
        (within w s (full ∙ sym w.places) mine refl) (within w o (all ∙ sym w.places) (and_second (well_formed_of w s) _ ok) refl)
        (few s (full ∙ sym w.places) mine))

pub whole_as_front-put_differences : goal.whole_as_front-put_differences
whole_as_front-put_differences g c =
    let w = g.W.Word.width in
    (room w c.args.self c.args.rhs (search rules) (search rules) c.requires c.min-threshold.ensures, words_fit (lone g.row.W.mir) g.met.W.Word.small)

pub accepted-requires : goal.accepted-requires
accepted-requires g c =
    let w = g.W.Word.width in
    let s = c.args.self in
    let o = c.args.rhs in
    let now = changed w s o (search rules) (search rules) c.requires c.zero-sums.ensures c.min-threshold.ensures c.numbers-mine.ensures c.numbers-others.ensures
    c.put_differences.ensures in
    let below = placed_below w.kind (subtract w.kind (view w s) (view w o)).sums (subtracted_below w.kind (view w s) (view w o)) in
    (words_fit (lone g.row.W.mir) g.met.W.Word.small, (sketch_fits (lone g.row.W.mir) g.met.W.Word.small, rw now below))

pub returns : goal.returns
unfolding subtract
returns g c =
    let w = g.W.Word.width in
    let s = c.args.self in
    let o = c.args.rhs in
    let now = changed w s o (search rules) (search rules) c.requires c.zero-sums.ensures c.min-threshold.ensures c.numbers-mine.ensures c.numbers-others.ensures
    c.put_differences.ensures in
    let counted : o.count < counts = search rules in
    let itself : o.count % counts ≡ o.count = mod-eq_of_lt counted in
    rw (c.accepted.ensures, now, c.min-threshold.ensures, itself)

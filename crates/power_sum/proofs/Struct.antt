-- Structs and the sketches that they stand for, over any width.
-- Assumes nothing.
use Rattle.std.proofs.Common.{◌≡◌, ℕ, ◌≤◌, true, List, ◌++◌, map, length, drop, refl, sym, ap, ◌∙◌, arith, take_at, Option, Some, None}
use lib.ListN.{length-map, replicate}
use Rattle.modint.specs.Width.{Width}
use Rattle.modint.specs.Answers.{val, wrap}
use Rattle.modint.specs.declared.Residue.{Residue}
use Rattle.rules.specs.Sketch as rules
use Rattle.rules.specs.Sketch.{Sketch, nothing, code, placed, WellFormed}
use Rattle.modint.proofs.Width.{nums_same}
use Rattle.rules.specs.Sums.{all_below}
use Rattle.rules.proofs.Each.{zeros_below, below_every}
use Rattle.rules.proofs.Field.{positive}
use Rattle.rules.proofs.WellFormed.{placed_well_formed, placed_over, threshold_in_range}
use Rattle.rules.proofs.Mapping.{unwrapped}
use Rattle.power_sum.specs.declared.power_sum.PowerSumQuack.{PowerSumQuack}
use Rattle.power_sum.specs.Answers.{last_of, last_to, view, built, well_formed_of}

module _ {W : Type 0} (w : Width W) where
  -- A last code goes to the struct and back.
  pub last_back : (a : rules.Last) → last_of w (last_to w a) ≡ a
  last_back nothing = refl
  last_back (code x) = ap code (w.num_of x)

  -- It goes to the rules and back.
  pub last_forth : (a : Option (Residue W)) → a ≡ last_to w (last_of w a)
  last_forth None = refl
  last_forth (Some x) = ap (λ (y : W). Some (record { 0 = y })) (sym (w.of_num x.0))

  -- As many words 0 as there are places have zeros for numbers.
  pub zeros : {z : W} → w.num z ≡ 0 → w.nums (replicate 32 z) ≡ replicate w.kind.greatest 0
  zeros {z} e = rw (w.places, nums_same w 32 z, e)

  -- They are below the prime.
  pub zeros_small : {z : W} → w.num z ≡ 0 → all_below w.kind (w.nums (replicate 32 z)) ≡ true
  zeros_small e = rw (zeros e) (below_every w.kind.modulus 0 _ (zeros_below w.kind.modulus (positive w.kind) w.kind.greatest))

  -- A struct that passes the test, with all its places.
  module _ (s : PowerSumQuack W) (full : length s.sums ≡ w.kind.greatest) (ok : well_formed_of w s ≡ true) where
    -- Its sums lie within the numbers of its places.
    pub within : {ns : List ℕ} → ns ≡ map (val w) s.sums → s.threshold ≤ length ns
    within e = omega (arith, (threshold_in_range w.kind s.threshold (map (val w) s.sums) (last_of w s.last) ok).1, full, ap length e ∙ length-map s.sums (val w))

    -- Other sums over the first of its places, as many, are placed as a sketch's are.
    pub put_back : (sums : List ℕ) → length sums ≡ s.threshold → sums ++ drop s.threshold (map (val w) s.sums) ≡ placed w.kind sums
    put_back sums e = placed_over w.kind s.threshold (map (val w) s.sums) (last_of w s.last) ok (length-map s.sums (val w) ∙ full) sums e

  -- The struct of a well-formed sketch stands for that sketch, and passes the test.
  module _ (g : Sketch) (well : WellFormed w.kind g) where
    -- The struct stands for the sketch.
    pub view_built : view w (built w g) ≡ g
    view_built =
        rw (
          unwrapped (val w) (wrap w) w.num_of (placed w.kind g.sums),
          take_at g.sums _ g.threshold well.as_many,
          last_back g.last,
        )

    -- The struct passes the test.
    pub built_well_formed : well_formed_of w (built w g) ≡ true
    built_well_formed = rw (unwrapped (val w) (wrap w) w.num_of (placed w.kind g.sums), last_back g.last) (placed_well_formed w.kind g well)

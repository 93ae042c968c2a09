-- Every call keeps a sketch well formed, and the test of a sketch's places says what the record says.
-- Assumes nothing.
use Prim.Native.Nat.{ℕ, zero, suc, ◌+◌, ◌-◌, ◌^◌, ◌<◌, ◌≤◌, min}
use mathlib.Core.Path.{◌≡◌, refl, ◌∙◌, ap₂}
use mathlib.Core.Bool.{Bool, true, false, cond, ◌&&◌}
use mathlib.Core.List.{List, [], ◌∷◌, ◌++◌, append-nil}
use native.Mathlib.Nat.{mod-lt, sub-zero, zero-sub, suc-sub-suc}
use native.Mathlib.Omega.{arith}
use lib.Dec.{leb, ltb, eqb}
use lib.ListN.{length, get_or, take, drop, replicate, length-replicate, replicate-append-replicate, length-take}
use lib.Seq.{length-take-le}
use borrow.Author.Tests.{lt-ltb, le-ltb, le-leb, ltb-true, leb-true, eqb-true}
use Rattle.numbers.specs.Table.{every}
use Rattle.newton.specs.Members.{AllBelow}
use Rattle.rules.specs.Kind.{Kind, counts}
use Rattle.rules.specs.Field.{residue, minus}
use Rattle.rules.specs.Sketch.{Last, nothing, code, Sketch, in_range, place_fits, last_fits, well_formed, placed, WellFormed, each, fresh, insert}
use Rattle.rules.specs.Sketch.{last_without, remove, subtract, cut}
use Rattle.rules.specs.Sums.{all_below, copied, differences}
use Rattle.rules.proofs.Field.{positive, residue_below, plus_below, minus_below}
use Rattle.rules.proofs.Mapping.{copied_whole}
use Rattle.rules.proofs.Changing.{differences_length, differences_first}
use Rattle.rules.proofs.Each.{each_length, each_below, and_first, and_second, zeros_below, take_below, append_below, below_every}

module _ (K : Kind) where
  -- ---- every call keeps a sketch well formed

  -- A fresh sketch is well formed where its threshold is in range.
  pub fresh_well_formed : (threshold : ℕ) → 1 ≤ threshold → threshold ≤ K.greatest → WellFormed K (fresh threshold)
  unfolding fresh
  fresh_well_formed threshold l u = record {
    at_least = l;
    at_most = u;
    as_many = length-replicate threshold 0;
    sums_below = zeros_below K.modulus (positive K) threshold;
    count_below = omega arith;
    last_fits = refl;
  }

  -- What an insertion, a removal and a subtraction make of sums is below the prime, whatever they were.
  pub inserted_below : (s : Sketch) (c : ℕ) → AllBelow K.modulus (insert K s c).sums
  unfolding insert
  inserted_below s c = each_below _ K.modulus (λ k sum. plus_below K sum (residue K c ^ k)) 1 s.sums

  -- The sums after a removal are below the prime.
  pub removed_below : (s : Sketch) (c : ℕ) → AllBelow K.modulus (remove K s c).sums
  unfolding remove
  removed_below s c = each_below _ K.modulus (λ k sum. minus_below K sum (residue K c ^ k)) 1 s.sums

  -- The sums after a subtraction are below the prime.
  pub subtracted_below : (s o : Sketch) → AllBelow K.modulus (subtract K s o).sums
  unfolding subtract
  subtracted_below s o =
      each_below _ K.modulus (λ k sum. minus_below K sum (get_or o.sums k 0)) 0 (take (min s.threshold o.threshold) s.sums)

  -- An insertion keeps a sketch well formed.
  pub insert_well_formed : (s : Sketch) (c : ℕ) → WellFormed K s → WellFormed K (insert K s c)
  unfolding insert
  insert_well_formed s c w = record {
    at_least = w.at_least;
    at_most = w.at_most;
    as_many = each_length _ 1 s.sums ∙ w.as_many;
    sums_below = inserted_below s c;
    count_below = mod-lt (s.count + 1) (omega arith);
    last_fits = lt-ltb _ _ (residue_below K c);
  }

  last_without_fits : (a : Last) (c : ℕ) → last_fits K a ≡ true → last_fits K (last_without a c) ≡ true
  last_without_fits nothing c h = refl
  last_without_fits (code x) c h = by_test (eqb x c)
    where
      by_test : (same : Bool) → last_fits K (cond same nothing (code x)) ≡ true
      by_test true = refl
      by_test false = h

  -- A removal keeps a sketch well formed.
  pub remove_well_formed : (s : Sketch) (c : ℕ) → WellFormed K s → WellFormed K (remove K s c)
  unfolding remove
  remove_well_formed s c w = record {
    at_least = w.at_least;
    at_most = w.at_most;
    as_many = each_length _ 1 s.sums ∙ w.as_many;
    sums_below = removed_below s c;
    count_below = mod-lt _ (omega arith);
    last_fits = last_without_fits s.last _ w.last_fits;
  }

  -- The difference of two well-formed sketches is well formed.
  pub subtract_well_formed : (s o : Sketch) → WellFormed K s → WellFormed K o → WellFormed K (subtract K s o)
  unfolding subtract
  subtract_well_formed s o w v = record {
    at_least = omega arith;
    at_most = omega arith;
    as_many = each_length _ 0 (take (min s.threshold o.threshold) s.sums)
        ∙ length-take-le (min s.threshold o.threshold) s.sums (omega arith);
    sums_below = subtracted_below s o;
    count_below = mod-lt _ (omega arith);
    last_fits = refl;
  }

  -- A sketch cut to its first m sums stays well formed where m is at least 1.
  pub cut_well_formed : (s : Sketch) (m : ℕ) → 1 ≤ m → WellFormed K s → WellFormed K (cut s m)
  unfolding cut
  cut_well_formed s m l w = record {
    at_least = omega arith;
    at_most = omega arith;
    as_many = omega (arith, length-take m s.sums);
    sums_below = take_below K.modulus m s.sums w.sums_below;
    count_below = w.count_below;
    last_fits = w.last_fits;
  }

  -- ---- a well-formed sketch passes the test

  zeros_fit : (threshold n k : ℕ) → threshold ≤ k → every (place_fits K threshold) k (replicate n 0) ≡ true
  unfolding every
  zeros_fit threshold zero k l = refl
  zeros_fit threshold (suc n) k l = rw (le-ltb k threshold l) (zeros_fit threshold n (suc k) (omega arith))

  sums_fit : (threshold n k : ℕ) (ss : List ℕ) → AllBelow K.modulus ss → k + length ss ≡ threshold
      → every (place_fits K threshold) k (ss ++ replicate n 0) ≡ true
  unfolding every
  sums_fit threshold n k [] below e = zeros_fit threshold n k (omega arith)
  sums_fit threshold n k (s ∷ ss) below e =
      let t : k < threshold = omega arith in
      rw (lt-ltb k threshold t, lt-ltb s K.modulus below.0) (sums_fit threshold n (suc k) ss below.1 (omega arith))

  -- The sums of a fresh sketch, put into places, are all zeros.
  pub placed_zeros : (threshold : ℕ) → threshold ≤ K.greatest → placed K (replicate threshold 0) ≡ replicate K.greatest 0
  placed_zeros threshold l =
      let sum : threshold + (K.greatest - threshold) ≡ K.greatest = omega arith in
      rw (length-replicate, replicate-append-replicate, sum)

  -- Sums over the first of as many zeros as there are places are placed.
  pub placed_on_zeros : (n : ℕ) (sums : List ℕ) → length sums ≡ n → sums ++ drop n (replicate K.greatest 0) ≡ placed K sums
  placed_on_zeros n sums e = rw (e, drop_zeros K.greatest n)
    where
      drop_zeros : (m n : ℕ) → drop {A = ℕ} n (replicate m 0) ≡ replicate (m - n) 0
      drop_zeros m zero = rw sub-zero
      drop_zeros zero (suc n) = rw zero-sub
      drop_zeros (suc m) (suc n) = rw suc-sub-suc (drop_zeros m n)

  -- So are the differences of the first m numbers of a list and the first n of another, as many as both have.
  pub placed_differences : (t m n : ℕ) (l o : List ℕ) → t ≡ min m n → m ≤ length l → n ≤ length o → m ≤ K.greatest
      → copied (take t (replicate K.greatest 0)) (differences K l o) ++ drop t (replicate K.greatest 0)
      ≡ placed K (each (λ (k s : ℕ). minus K s (get_or (take n o) k 0)) 0 (take (min m n) (take m l)))
  placed_differences t m n l o e lm ln few =
      let zeros : List ℕ = take t (replicate K.greatest 0) in
      let long : length zeros ≡ t = length-take-le t (replicate K.greatest 0) (omega (arith, length-replicate {A = ℕ} K.greatest 0)) in
      let first = differences_first K t m n l o (omega arith) (omega arith) (omega arith) (omega arith) in
      let many : length (take t (differences K l o)) ≡ t = length-take-le t (differences K l o) (omega (arith, differences_length K l o)) in
      rw (copied_whole zeros (differences K l o) (omega (arith, long, differences_length K l o)), long, ← e, ← first)
      (placed_on_zeros t (take t (differences K l o)) many)

  -- Sums below the prime, put into places, are.
  pub placed_below : (sums : List ℕ) → AllBelow K.modulus sums → all_below K (placed K sums) ≡ true
  placed_below sums below =
      below_every K.modulus 0 (placed K sums)
      (append_below K.modulus sums _ below (zeros_below K.modulus (positive K) (K.greatest - length sums)))

  -- The sums of a well-formed sketch pass the test.
  pub well_formed_sums : (s : Sketch) → WellFormed K s → well_formed K s.threshold s.sums s.last ≡ true
  unfolding well_formed
  well_formed_sums s w =
      rw (
        le-leb 1 s.threshold w.at_least,
        le-leb s.threshold K.greatest w.at_most,
        rw append-nil at (sums_fit s.threshold 0 0 s.sums w.sums_below (omega arith)),
        w.last_fits,
      )

  -- A well-formed sketch, put into places, passes the test.
  pub placed_well_formed : (s : Sketch) → WellFormed K s → well_formed K s.threshold (placed K s.sums) s.last ≡ true
  unfolding well_formed
  placed_well_formed s w =
      rw (
        le-leb 1 s.threshold w.at_least,
        le-leb s.threshold K.greatest w.at_most,
        sums_fit s.threshold (K.greatest - length s.sums) 0 s.sums w.sums_below (omega arith),
        w.last_fits,
      )

  -- ---- what the test says

  -- A threshold that passes the test is from 1 to the greatest.
  pub in_range_parts : (n : ℕ) → in_range K n ≡ true → (1 ≤ n) × (n ≤ K.greatest)
  in_range_parts n t = (leb-true 1 n (and_first (leb 1 n) _ t), leb-true n K.greatest (and_second (leb 1 n) _ t))

  fit_zeros : (threshold k : ℕ) (places : List ℕ) → threshold ≤ k → every (place_fits K threshold) k places ≡ true → places ≡ replicate (length places) 0
  unfolding every
  fit_zeros threshold k [] l t = refl
  fit_zeros threshold k (s ∷ places) l t =
      let past : ltb k threshold ≡ false = le-ltb k threshold l in
      let zero_here : s ≡ 0 = eqb-true s 0 (and_first (eqb s 0) _ (rw past at t)) in
      ap₂ (λ (x : ℕ) (xs : List ℕ). x ∷ xs) zero_here (fit_zeros threshold (suc k) places (omega arith) (and_second (eqb s 0) _ (rw past at t)))

  fit_rest : (threshold k j : ℕ) (places : List ℕ) → threshold - k ≡ j → every (place_fits K threshold) k places ≡ true
      → drop j places ≡ replicate (length places - j) 0
  unfolding every
  fit_rest threshold k zero places e t = rw sub-zero (fit_zeros threshold k places (omega arith) t)
  fit_rest threshold k (suc j) [] e t = rw zero-sub
  fit_rest threshold k (suc j) (s ∷ places) e t =
      rw suc-sub-suc (fit_rest threshold (suc k) j places (omega arith) (and_second (place_fits K threshold k s) _ t))

  fit_sums : (threshold k j : ℕ) (places : List ℕ) → k + j ≤ threshold → every (place_fits K threshold) k places ≡ true → AllBelow K.modulus (take j places)
  unfolding every
  fit_sums threshold k zero places l t = tt
  fit_sums threshold k (suc j) [] l t = tt
  fit_sums threshold k (suc j) (s ∷ places) l t =
      let here : ltb k threshold ≡ true = lt-ltb k threshold (omega arith) in
      let small : s < K.modulus = ltb-true s K.modulus (and_first (ltb s K.modulus) _ (rw here at t)) in
      (small, fit_sums threshold (suc k) j places (omega arith) (and_second (place_fits K threshold k s) _ t))

  module _ (threshold : ℕ) (places : List ℕ) (last : Last) (t : well_formed K threshold places last ≡ true) where
    range_and_places : in_range K threshold && every (place_fits K threshold) 0 places ≡ true
    unfolding well_formed
    range_and_places = and_first (in_range K threshold && every (place_fits K threshold) 0 places) (last_fits K last) t

    places_fit : every (place_fits K threshold) 0 places ≡ true
    places_fit = and_second (in_range K threshold) (every (place_fits K threshold) 0 places) range_and_places

    -- The threshold of places that pass the test is in range.
    pub threshold_in_range : (1 ≤ threshold) × (threshold ≤ K.greatest)
    threshold_in_range = in_range_parts threshold (and_first (in_range K threshold) (every (place_fits K threshold) 0 places) range_and_places)

    -- The last code beside places that pass the test is none or a residue.
    pub last_code_fits : last_fits K last ≡ true
    unfolding well_formed
    last_code_fits = and_second (in_range K threshold && every (place_fits K threshold) 0 places) (last_fits K last) t

    -- The unused of places that pass the test are 0.
    pub rest_is_zero : drop threshold places ≡ replicate (length places - threshold) 0
    rest_is_zero = fit_rest threshold 0 threshold places (sub-zero threshold) places_fit

    -- Places that pass the test, as many as the threshold says or more, hold a well-formed sketch.
    pub well_formed_parts : threshold ≤ length places → (count : ℕ) → count < counts
        → WellFormed K (record { threshold = threshold; sums = take threshold places; count = count; last = last })
    well_formed_parts enough count l = record {
      at_least = threshold_in_range.0;
      at_most = threshold_in_range.1;
      as_many = length-take-le threshold places enough;
      sums_below = fit_sums threshold 0 threshold places (omega arith) places_fit;
      count_below = l;
      last_fits = last_code_fits;
    }

    -- Other sums over the first of all the places of a struct, as many as there are, are placed as a sketch's are.
    pub placed_over : length places ≡ K.greatest → (sums : List ℕ) → length sums ≡ threshold → sums ++ drop threshold places ≡ placed K sums
    placed_over full sums e = rw (e, ← full, rest_is_zero)

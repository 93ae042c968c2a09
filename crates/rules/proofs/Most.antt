-- The greatest number of a list tells whether all are below a bound, and whether all are 0: the test of a sketch's places.
-- Assumes nothing.
use Prim.Native.Nat.{ℕ, zero, suc, ◌+◌, ◌-◌, ◌≤◌, ◌<◌, max, min}
use mathlib.Core.Path.{◌≡◌, refl, sym, ◌∙◌, ap}
use mathlib.Core.Bool.{Bool, true, false, ◌&&◌}
use mathlib.Core.List.{List, [], ◌∷◌}
use native.Mathlib.Numerals.{add-one}
use native.Mathlib.Omega.{arith}
use lib.Dec.{ltb, eqb}
use lib.ListN.{length, get_or, take, drop, drop_of_length-le}
use lib.Seq.{drop-cons, take_all}
use borrow.Author.Tests.{lt-ltb, le-ltb, ltb-true, ltb-false, ne_eqb}
use Rattle.numbers.specs.Table.{every}
use Rattle.rules.specs.Kind.{Kind}
use Rattle.rules.specs.Sketch.{place_fits}
use Rattle.rules.specs.Sums.{greatest, all_below}
use Rattle.rules.proofs.Field.{positive}

-- ---- the loop

-- After k numbers, the greatest so far and the greatest of the rest are that of all.
pub record Most (l : List ℕ) (most k : ℕ) : Type 0 where
  pub within : k ≤ length l
  pub whole : max most (greatest (drop k l)) ≡ greatest l

module _ {l : List ℕ} where
  -- At the start the greatest so far is 0.
  pub most_start : Most l 0 0
  most_start = record { within = omega arith; whole = omega arith }

  -- One number more.
  pub most_turn : {most k v : ℕ} → Most l most k → k < length l → v ≡ max most (get_or l k 0) → Most l v (k + 1)
  unfolding greatest
  most_turn {most} {k} {v} i h e =
      let here : max most (max (get_or l k 0) (greatest (drop (suc k) l))) ≡ greatest l = sym (rw (drop-cons l k 0)) ∙ i.whole in
      record { within = omega arith; whole = rw add-one (omega (arith, here, e)) }

  -- After the last it is the greatest.
  pub most_done : {most k : ℕ} → Most l most k → length l ≤ k → most ≡ greatest l
  unfolding greatest
  most_done {most} i h = let w : max most 0 ≡ greatest l = sym (rw (drop_of_length-le l h)) ∙ i.whole in omega arith

-- ---- what it tells

below_both : (a b p : ℕ) → ltb a p && ltb b p ≡ ltb (max a b) p
below_both a b p = by_tests (ltb a p) (ltb b p) refl refl
  where
    by_tests : (x y : Bool) → ltb a p ≡ x → ltb b p ≡ y → x && y ≡ ltb (max a b) p
    by_tests true true e f = sym (lt-ltb (max a b) p (omega (arith, ltb-true a p e, ltb-true b p f)))
    by_tests true false e f = sym (le-ltb (max a b) p (omega (arith, ltb-false b p f)))
    by_tests false y e f = sym (le-ltb (max a b) p (omega (arith, ltb-false a p e)))

zero_both : (a b : ℕ) → eqb a 0 && eqb b 0 ≡ eqb (max a b) 0
zero_both zero b = let e : b ≡ max 0 b = omega arith in ap (λ (z : ℕ). eqb z 0) e
zero_both (suc a) b = rw (ne_eqb (suc a) 0 (λ e. omega arith), ne_eqb (max (suc a) b) 0 (λ e. omega arith))

-- Every number is below p where the greatest is.
pub every_most : (p : ℕ) → 0 < p → (k : ℕ) (l : List ℕ) → every (λ (k n : ℕ). ltb n p) k l ≡ ltb (greatest l) p
unfolding every greatest
every_most p h k [] = sym (lt-ltb 0 p h)
every_most p h k (n ∷ l) = rw (every_most p h (suc k) l) (below_both n (greatest l) p)

module _ (K : Kind) where
  -- Places from the threshold on hold 0 where the greatest is 0.
  past : (t k : ℕ) (l : List ℕ) → t ≤ k → every (place_fits K t) k l ≡ eqb (greatest l) 0
  unfolding every greatest
  past t k [] h = refl
  past t k (n ∷ l) h = rw (le-ltb k t h, past t (suc k) l (omega arith)) (zero_both n (greatest l))

  -- Places below the threshold hold residues where all are below the prime.
  pub every_used : (t k : ℕ) (l : List ℕ) → k + length l ≤ t → every (place_fits K t) k l ≡ all_below K l
  unfolding every greatest
  every_used t k l h = used t k l h ∙ sym (every_most K.modulus (positive K) 0 l)
    where
      used : (t k : ℕ) (l : List ℕ) → k + length l ≤ t → every (place_fits K t) k l ≡ ltb (greatest l) K.modulus
      used t k [] h = sym (lt-ltb 0 K.modulus (positive K))
      used t k (n ∷ l) h =
          let here : k < t = omega arith in
          rw (lt-ltb k t here, used t (suc k) l (omega arith)) (below_both n (greatest l) K.modulus)

  split : (t k j : ℕ) (l : List ℕ) → t - k ≡ j → every (place_fits K t) k l ≡ ltb (greatest (take j l)) K.modulus && eqb (greatest (drop j l)) 0
  unfolding every greatest
  split t k zero l e = rw (lt-ltb 0 K.modulus (positive K)) (past t k l (omega arith))
  split t k (suc j) [] e = rw (lt-ltb 0 K.modulus (positive K))
  split t k (suc j) (n ∷ l) e =
      let here : k < t = omega arith in
      rw (lt-ltb k t here, split t (suc k) j l (omega arith), ← below_both n (greatest (take j l)) K.modulus)
      (regrouped (ltb n K.modulus) _ _)
    where
      regrouped : (a b c : Bool) → a && (b && c) ≡ (a && b) && c
      regrouped true b c = refl
      regrouped false b c = refl

  -- The test of places, from the test of those in use and the greatest of the others.
  pub places_split : (t used : ℕ) (l : List ℕ) → used ≡ min t (length l)
      → every (place_fits K t) 0 l ≡ all_below K (take used l) && eqb (greatest (drop used l)) 0
  places_split t used l e =
      by_test (ltb t (length l)) refl ∙ ap (λ (b : Bool). b && eqb (greatest (drop used l)) 0) (sym (every_most K.modulus (positive K) 0 (take used l)))
    where
      whole : every (place_fits K t) 0 l ≡ ltb (greatest (take t l)) K.modulus && eqb (greatest (drop t l)) 0
      whole = split t 0 t l (omega arith)

      by_test : (b : Bool) → ltb t (length l) ≡ b
          → every (place_fits K t) 0 l ≡ ltb (greatest (take used l)) K.modulus && eqb (greatest (drop used l)) 0
      by_test true h =
          let u : used ≡ t = omega (arith, ltb-true t (length l) h) in
          rw u whole
      by_test false h =
          let le = ltb-false t (length l) h in
          let lu : length l ≤ used = omega arith in
          rw (take_all used l lu, drop_of_length-le l lu) (whole ∙ rw (take_all t l le, drop_of_length-le l le))

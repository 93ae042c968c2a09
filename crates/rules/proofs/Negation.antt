-- Negation of a sketch: it is nothing less the sketch, twice it changes nothing but the last code, and of a difference it is the difference the other way
-- round. And a count read as a signed number.
-- Assumes nothing.
use Prim.Native.Nat.{ℕ, suc, ◌+◌, ◌-◌, ◌%◌, ◌<◌, ◌≤◌, min}
use mathlib.Core.Path.{◌≡◌, refl, sym, ◌∙◌, ap, ap₂}
use mathlib.Core.List.{List, [], ◌∷◌, map}
use native.Mathlib.Nat.{mod-mod, mod-lt, mod-eq_of_lt}
use native.Mathlib.Omega.{arith}
use lib.Dec.{lit≤}
use lib.IntN.{pos, negsuc}
use lib.ListN.{length, get_or, take, replicate, length-replicate, length-map, get_or-replicate}
use lib.Seq.{get_or-take, length-take-le}
use borrow.Author.Tests.{lt-ltb, le-ltb}
use Rattle.numbers.proofs.Congruence.{add_congruent, cancel_add, subtract_then_add}
use Rattle.newton.specs.Members.{AllBelow}
use Rattle.rules.specs.Kind.{Kind, kind32, counts, half_counts}
use Rattle.rules.specs.Field.{difference, minus, negative}
use Rattle.rules.specs.Signed.{signed_count}
use Rattle.rules.specs.Sketch.{Sketch, nothing, WellFormed, each, fresh, insert, subtract, negate, surplus_in}
use Rattle.rules.proofs.Field.{positive, minus_below}
use Rattle.rules.proofs.Each.{each_same}
use Rattle.rules.proofs.WellFormed.{fresh_well_formed, insert_well_formed}

-- ---- a difference turned round

module _ (m : ℕ) (l : 0 < m) where
  -- The negative of a difference is the difference the other way round.
  difference_turned : (a b : ℕ) → difference m 0 (difference m a b) ≡ difference m b a
  difference_turned a b =
      sym (mod-mod _ m) ∙ cancel_add m d (difference m 0 d) e (ap (λ (z : ℕ). z % m) (omega arith) ∙ subtract_then_add m l 0 d ∙ sym together) ∙ mod-mod _ m
    where
      d : ℕ
      d = difference m a b

      e : ℕ
      e = difference m b a

      together : (d + e) % m ≡ 0 % m
      together =
          cancel_add m b (d + e) 0
          (ap (λ (z : ℕ). z % m) (omega arith) ∙ add_congruent m (d + b) a e e (subtract_then_add m l a b) refl ∙ ap (λ (z : ℕ). z % m) (omega arith)
          ∙ subtract_then_add m l b a ∙ ap (λ (z : ℕ). z % m) (omega arith))

  -- Less nothing, a number is what m leaves of it.
  less_nothing : (a : ℕ) → difference m a 0 ≡ a % m
  less_nothing a = sym (mod-mod _ m) ∙ ap (λ (z : ℕ). z % m) (omega arith) ∙ subtract_then_add m l a 0

-- ---- lists changed

-- A change that does not look at the place is a map.
each_map : (f : ℕ → ℕ) (k : ℕ) (ss : List ℕ) → map f ss ≡ each (λ (j s : ℕ). f s) k ss
unfolding each
each_map f k [] = refl
each_map f k (s ∷ ss) = ap (λ (l : List ℕ). f s ∷ l) (each_map f (k + 1) ss ∙ ap (λ (j : ℕ). each (λ (j s : ℕ). f s) j ss) (omega arith))

-- Two changes one after the other are one.
map_each : (f : ℕ → ℕ) (g : ℕ → ℕ → ℕ) (k : ℕ) (ss : List ℕ) → map f (each g k ss) ≡ each (λ (j s : ℕ). f (g j s)) k ss
unfolding each
map_each f g k [] = refl
map_each f g k (s ∷ ss) = ap (λ (l : List ℕ). f (g k s) ∷ l) (map_each f g _ ss)

-- ---- the negated sketch

module _ (K : Kind) where
  -- Negatives are below the prime.
  negatives_below : (ss : List ℕ) → AllBelow K.modulus (map (negative K) ss)
  negatives_below [] = tt
  negatives_below (s ∷ ss) = (minus_below K 0 s, negatives_below ss)

  -- Negation keeps a sketch well formed.
  pub negate_well_formed : (s : Sketch) → WellFormed K s → WellFormed K (negate K s)
  unfolding negate
  negate_well_formed s w = record {
    at_least = w.at_least;
    at_most = w.at_most;
    as_many = length-map s.sums (negative K) ∙ w.as_many;
    sums_below = negatives_below s.sums;
    count_below = mod-lt _ (omega arith);
    last_fits = refl;
  }

  -- The negated sketch is a fresh one less it.
  pub nothing_less : (s : Sketch) → WellFormed K s → subtract K (fresh s.threshold) s ≡ negate K s
  unfolding subtract fresh negate
  nothing_less s w = λ i. record { threshold = same i; sums = sums i; count = difference counts 0 s.count; last = nothing }
    where
      t : ℕ
      t = s.threshold

      same : min t t ≡ t
      same = omega arith

      zeros : List ℕ
      zeros = take (min t t) (replicate t 0)

      many : length zeros ≡ t
      many = length-take-le (min t t) (replicate t 0) (omega (arith, length-replicate {A = ℕ} t 0)) ∙ same

      at : (j : ℕ) → j < length zeros → minus K (get_or zeros j 0) (get_or s.sums (0 + j) 0) ≡ negative K (get_or s.sums j 0)
      at j l =
          ap₂ (λ (z k : ℕ). minus K z (get_or s.sums k 0))
          (get_or-take (min t t) (replicate t 0) j 0 (omega (arith, many)) ∙ get_or-replicate t j 0 0 (omega (arith, many))) (omega arith)

      sums : each (λ (k sum : ℕ). minus K sum (get_or s.sums k 0)) 0 zeros ≡ map (negative K) s.sums
      sums = each_same _ (λ (k sum : ℕ). negative K sum) 0 zeros s.sums (many ∙ sym w.as_many) at ∙ sym (each_map (negative K) 0 s.sums)

  -- Negation twice gives the sketch without its last code.
  pub negate_twice : (s : Sketch) → WellFormed K s
      → negate K (negate K s) ≡ record { threshold = s.threshold; sums = s.sums; count = s.count; last = nothing }
  unfolding negate
  negate_twice s w = λ i. record { threshold = s.threshold; sums = twice s.sums w.sums_below i; count = count i; last = nothing }
    where
      back : (m a : ℕ) → 0 < m → a < m → difference m 0 (difference m 0 a) ≡ a
      back m a l u = difference_turned m l 0 a ∙ less_nothing m l a ∙ mod-eq_of_lt u

      twice : (ss : List ℕ) → AllBelow K.modulus ss → map (negative K) (map (negative K) ss) ≡ ss
      twice [] below = refl
      twice (a ∷ ss) below = ap₂ (λ (x : ℕ) (xs : List ℕ). x ∷ xs) (back K.modulus a (positive K) below.0) (twice ss below.1)

      count : difference counts 0 (difference counts 0 s.count) ≡ s.count
      count = back counts s.count (omega arith) w.count_below

  -- Negation of a difference is the difference the other way round.
  pub negate_difference : (s o : Sketch) → WellFormed K s → WellFormed K o → negate K (subtract K s o) ≡ subtract K o s
  unfolding negate subtract
  negate_difference s o w v = λ i. record {
    threshold = swapped i;
    sums = sums i;
    count = difference_turned counts (omega arith) s.count o.count i;
    last = nothing;
  }
    where
      n : ℕ
      n = min s.threshold o.threshold

      m : ℕ
      m = min o.threshold s.threshold

      swapped : n ≡ m
      swapped = omega arith

      many : length (take n s.sums) ≡ n
      many = length-take-le n s.sums (omega (arith, w.as_many))

      many_others : length (take m o.sums) ≡ m
      many_others = length-take-le m o.sums (omega (arith, v.as_many))

      at : (j : ℕ) → j < length (take n s.sums)
          → negative K (minus K (get_or (take n s.sums) j 0) (get_or o.sums (0 + j) 0)) ≡ minus K (get_or (take m o.sums) j 0) (get_or s.sums (0 + j) 0)
      at j l =
          difference_turned K.modulus (positive K) (get_or (take n s.sums) j 0) (get_or o.sums (0 + j) 0)
          ∙ ap₂ (λ (x y : ℕ). minus K x y) (ap (λ (k : ℕ). get_or o.sums k 0) (omega arith) ∙ sym (get_or-take m o.sums j 0 (omega (arith, many))))
          (get_or-take n s.sums j 0 (omega (arith, many)) ∙ ap (λ (k : ℕ). get_or s.sums k 0) (omega arith))

      sums : map (negative K) (each (λ (k sum : ℕ). minus K sum (get_or o.sums k 0)) 0 (take n s.sums))
          ≡ each (λ (k sum : ℕ). minus K sum (get_or s.sums k 0)) 0 (take m o.sums)
      sums = map_each (negative K) _ 0 (take n s.sums) ∙ each_same _ _ 0 (take n s.sums) (take m o.sums) (many ∙ swapped ∙ sym many_others) at

-- ---- both laws at their limits

-- The greatest code in a sketch of two sums, and the prime twice in one of a single sum.
abbrev large : Sketch
large = insert kind32 (fresh 2) 4294967295

abbrev zeros : Sketch
zeros = insert kind32 (insert kind32 (fresh 1) 4294967291) 4294967291

-- They are well formed.
large_well_formed : WellFormed kind32 large
large_well_formed = insert_well_formed kind32 (fresh 2) 4294967295 (fresh_well_formed kind32 2 (lit≤ tt) (lit≤ tt))

zeros_well_formed : WellFormed kind32 zeros
zeros_well_formed =
    insert_well_formed kind32 _ 4294967291 (insert_well_formed kind32 (fresh 1) 4294967291 (fresh_well_formed kind32 1 (lit≤ tt) (lit≤ tt)))

-- Negated twice, the first has its sums and its count, and no last code.
pub negate_twice_witness : negate kind32 (negate kind32 large) ≡ record { threshold = 2; sums = 4 ∷ 16 ∷ []; count = 1; last = nothing }
unfolding insert fresh each
negate_twice_witness = negate_twice kind32 large large_well_formed

-- The first less the second, negated, is the second less the first: a threshold of 1, the negative of 4, and a count of 1.
pub negate_difference_witness : negate kind32 (subtract kind32 large zeros) ≡ record { threshold = 1; sums = 4294967287 ∷ []; count = 1; last = nothing }
unfolding insert fresh each subtract
negate_difference_witness = negate_difference kind32 large zeros large_well_formed zeros_well_formed

-- ---- a count as a signed number

-- A count below half of all is itself.
pub signed_itself : (n : ℕ) → n < half_counts → signed_count n ≡ pos n
unfolding signed_count
signed_itself n l = rw (lt-ltb n half_counts l)

-- Any other is negative: it lacks so many of all counts.
pub signed_negative : (n : ℕ) → half_counts ≤ n → n < counts → signed_count n ≡ negsuc (counts - suc n)
unfolding signed_count
signed_negative n l u = rw (le-ltb n half_counts l, lt-ltb n counts u)

module _ (K : Kind) (s : Sketch) where
  -- No surplus where the count is below half of all.
  pub none_surplus : s.count < half_counts → surplus_in s ≡ 0
  none_surplus l = rw (signed_itself s.count l)

  -- From there on the surplus is the count of the negated sketch.
  pub surplus_is_negated : half_counts ≤ s.count → s.count < counts → surplus_in s ≡ (negate K s).count
  unfolding negate
  surplus_is_negated l u = rw (signed_negative s.count l u) (omega arith)

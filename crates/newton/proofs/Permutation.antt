-- Permutations, appended lists and counts: what depends on the members alone, and not on their order.
-- Assumes nothing.
use Prim.Native.Nat.{ℕ, zero, suc, ◌+◌, ◌-◌, ◌*◌, ◌^◌, ◌<◌, ◌≤◌}
use mathlib.Core.Path.{◌≡◌, refl, sym, ◌∙◌, ap, ap₂}
use mathlib.Core.Logic.{◌⊎◌, inl, inr}
use mathlib.Core.Bool.{Bool, true, false}
use mathlib.Core.List.Permᴰ
use mathlib.Core.List.{List, [], ◌∷◌, ◌++◌, Memᴰ, Permᴰ}
use native.Mathlib.Nat.{eq-zero-or-pos}
use native.Mathlib.Omega.{arith}
use lib.Dec.{eqb}
use lib.ListN.{length}
use borrow.Author.Tests.{eqb-true, eq-eqb}
use Rattle.newton.specs.Members.{AllBelow, tick, count}
use Rattle.newton.specs.PowerSum.{power_sum}
use Rattle.newton.specs.Polynomial.{coefficient}

-- A member can be put first.
pub extract : (x : ℕ) (xs : List ℕ) → Memᴰ x xs → (rest : List ℕ) × Permᴰ xs (x ∷ rest)
extract x xs (Memᴰ.head {xs = rest} e) = (rest, Permᴰ.cons (sym e) (Permᴰ.refl rest))
extract x xs (Memᴰ.tail {x = y} {xs = ys} m) = behind (extract x ys m)
  where
    behind : (rest : List ℕ) × Permᴰ ys (x ∷ rest) → (rest : List ℕ) × Permᴰ (y ∷ ys) (x ∷ rest)
    behind e = (y ∷ e.0, Permᴰ.trans (Permᴰ.cons refl e.1) (Permᴰ.swap refl refl))

-- ---- permutations

-- Permuted lists are equally long.
pub length_permuted : {xs ys : List ℕ} → Permᴰ xs ys → length xs ≡ length ys
length_permuted Permᴰ.nil = refl
length_permuted (Permᴰ.cons e d) = ap suc (length_permuted d)
length_permuted (Permᴰ.swap e f) = refl
length_permuted (Permᴰ.trans d e) = length_permuted d ∙ length_permuted e

-- Permuted lists have the same power sums.
pub power_sum_permuted : {xs ys : List ℕ} (k : ℕ) → Permᴰ xs ys → power_sum xs k ≡ power_sum ys k
power_sum_permuted k Permᴰ.nil = refl
power_sum_permuted k (Permᴰ.cons e d) = ap₂ (λ (u v : ℕ). u ^ k + v) e (power_sum_permuted k d)
power_sum_permuted k (Permᴰ.swap e f) = omega (arith, ap (λ (u : ℕ). u ^ k) e, ap (λ (u : ℕ). u ^ k) f)
power_sum_permuted k (Permᴰ.trans d e) = power_sum_permuted k d ∙ power_sum_permuted k e

-- Permuted lists have the same counts.
pub count_permuted : {xs ys : List ℕ} (x : ℕ) → Permᴰ xs ys → count x xs ≡ count x ys
count_permuted x Permᴰ.nil = refl
count_permuted x (Permᴰ.cons e d) = ap₂ (λ (u v : ℕ). tick (eqb x u) + v) e (count_permuted x d)
count_permuted x (Permᴰ.swap e f) = omega (arith, ap (λ (u : ℕ). tick (eqb x u)) e, ap (λ (u : ℕ). tick (eqb x u)) f)
count_permuted x (Permᴰ.trans d e) = count_permuted x d ∙ count_permuted x e

module _ (p : ℕ) where
  -- A permuted list has its members below p too.
  pub all_below_permuted : {xs ys : List ℕ} → Permᴰ xs ys → AllBelow p xs → AllBelow p ys
  all_below_permuted Permᴰ.nil below = tt
  all_below_permuted (Permᴰ.cons e d) below = (omega arith, all_below_permuted d below.1)
  all_below_permuted (Permᴰ.swap e f) below = (omega arith, (omega arith, below.1.1))
  all_below_permuted (Permᴰ.trans d e) below = all_below_permuted e (all_below_permuted d below)

  coefficient_swapped : (x y : ℕ) (xs : List ℕ) (k : ℕ) → coefficient p (x ∷ y ∷ xs) k ≡ coefficient p (y ∷ x ∷ xs) k
  coefficient_swapped x y xs zero = refl
  coefficient_swapped x y xs (suc zero) = regrouped (coefficient p xs 1) (coefficient p xs 0) (p - y) (p - x)
    where
      regrouped : (a b s t : ℕ) → a + s * b + t * b ≡ a + t * b + s * b
      regrouped a b s t = omega arith
  coefficient_swapped x y xs (suc (suc k)) =
      regrouped (coefficient p xs (suc (suc k))) (coefficient p xs (suc k)) (coefficient p xs k) (p - y) (p - x)
    where
      regrouped : (a b d s t : ℕ) → a + s * b + t * (b + s * d) ≡ a + t * b + s * (b + t * d)
      regrouped a b d s t = omega arith

  -- The coefficients do not depend on the order of the members.
  pub coefficient_permuted : {xs ys : List ℕ} → Permᴰ xs ys → (k : ℕ) → coefficient p xs k ≡ coefficient p ys k
  coefficient_permuted Permᴰ.nil k = refl
  coefficient_permuted (Permᴰ.cons e d) zero = coefficient_permuted d zero
  coefficient_permuted (Permᴰ.cons e d) (suc k) =
      ap₂ ◌+◌ (coefficient_permuted d (suc k)) (ap₂ (λ (u v : ℕ). (p - u) * v) e (coefficient_permuted d k))
  coefficient_permuted (Permᴰ.swap {a = x} {b = y} {l = xs} e f) k =
      coefficient_swapped x y xs k ∙ ap₂ (λ (u v : ℕ). coefficient p (u ∷ v ∷ xs) k) f e
  coefficient_permuted (Permᴰ.trans d e) k = coefficient_permuted d k ∙ coefficient_permuted e k

-- ---- appended lists

-- The power sums of two lists together are the sums of theirs.
pub power_sum_append : (xs ys : List ℕ) (k : ℕ) → power_sum (xs ++ ys) k ≡ power_sum xs k + power_sum ys k
power_sum_append [] ys k = omega arith
power_sum_append (x ∷ xs) ys k = omega (arith, power_sum_append xs ys k)

-- The counts of two lists together are the sums of theirs.
pub count_append : (x : ℕ) (xs ys : List ℕ) → count x (xs ++ ys) ≡ count x xs + count x ys
count_append x [] ys = omega arith
count_append x (y ∷ xs) ys = omega (arith, count_append x xs ys)

-- Two lists with all members below p have them so together.
pub all_below_append : (p : ℕ) (xs ys : List ℕ) → AllBelow p xs → AllBelow p ys → AllBelow p (xs ++ ys)
all_below_append p [] ys below-first below-second = below-second
all_below_append p (x ∷ xs) ys below-first below-second = (below-first.0, all_below_append p xs ys below-first.1 below-second)

-- The second of two lists has all its members below p where the two together have.
pub all_below_after : (p : ℕ) (xs ys : List ℕ) → AllBelow p (xs ++ ys) → AllBelow p ys
all_below_after p [] ys below = below
all_below_after p (x ∷ xs) ys below = all_below_after p xs ys below.1

-- ---- members and counts

-- One more copy in front counts one more.
pub count_of_first : (x : ℕ) (xs : List ℕ) → count x (x ∷ xs) ≡ suc (count x xs)
count_of_first x xs = omega (arith, ap tick (eq-eqb x x refl))

-- A member has a count above 0.
pub counted : {x : ℕ} {xs : List ℕ} → Memᴰ x xs → 0 < count x xs
counted {x} (Memᴰ.head {x = y} e) = omega (arith, ap tick (eq-eqb x y e))
counted (Memᴰ.tail m) = omega (arith, counted m)

-- What has a count above 0 is a member.
pub member_of_count : (x : ℕ) (xs : List ℕ) → 0 < count x xs → Memᴰ x xs
member_of_count x [] l = absurd (omega arith)
member_of_count x (y ∷ xs) l = by_test (eqb x y) refl (member_of_count x xs)
  where
    by_test : (same : Bool) → eqb x y ≡ same → (0 < count x xs → Memᴰ x xs) → Memᴰ x (y ∷ xs)
    by_test true e later = Memᴰ.head (eqb-true x y e)
    by_test false e later = Memᴰ.tail (later (omega (arith, ap tick e)))

-- What is no member has the count 0.
pub count_of_none : (x : ℕ) (xs : List ℕ) → (Memᴰ x xs → ⊥) → count x xs ≡ 0
count_of_none x xs none = pick (eq-zero-or-pos (count x xs))
  where
    pick : (count x xs ≡ 0) ⊎ (0 < count x xs) → count x xs ≡ 0
    pick (inl e) = e
    pick (inr l) = absurd (none (member_of_count x xs l))

-- A list that counts at most what another counts can be taken from it.
pub remainder : (xs ys : List ℕ) → ((x : ℕ) → count x ys ≤ count x xs) → (rest : List ℕ) × Permᴰ xs (ys ++ rest)
remainder xs [] fewer = (xs, Permᴰ.refl xs)
remainder xs (y ∷ ys) fewer = without (extract y xs (member_of_count y xs (omega (arith, fewer y, count_of_first y ys)))) (λ zs. remainder zs ys)
  where
    without : (zs : List ℕ) × Permᴰ xs (y ∷ zs) → ((zs : List ℕ) → ((x : ℕ) → count x ys ≤ count x zs) → (rest : List ℕ) × Permᴰ zs (ys ++ rest))
        → (rest : List ℕ) × Permᴰ xs (y ∷ ys ++ rest)
    without e later =
        let taken = later e.0 (λ x. omega (arith, fewer x, count_permuted x e.1)) in
        (taken.0, Permᴰ.trans e.1 (Permᴰ.cons refl taken.1))

-- The number of multiplications of the power: its step, its size, and its closed form from the exponent's digits.
-- Assumes nothing.
use Prim.Native.Nat.{ℕ, zero, suc, ◌+◌, ◌-◌, ◌^◌, ◌/◌, ◌%◌, ◌≤◌, ◌<◌, zero-le}
use mathlib.Core.Path.{◌≡◌, refl, ap, ◌∙◌}
use native.Mathlib.Nat.{not-suc-le-zero, le_refl, pow-suc, zero-lt-suc}
use native.Mathlib.Decide.{le_ind}
use native.Mathlib.Omega.{arith}
use lib.Arith.{half_le}
use lib.Count.{count_leading_zeros, leading_of_zero, leading_top, ones, ones-le, ones_step, ones_in}
use borrow.Author.Tests.{ne_eqb}
use Rattle.rules.specs.Kind.{Kind, bits}
use Rattle.rules.specs.Field.{multiplications_within, multiplications, multiplications_by_digits}

-- ---- the step

one_halving_more : (k e : ℕ) → e ≤ k → multiplications_within (suc k) e ≡ multiplications_within k e
unfolding multiplications_within
one_halving_more zero zero l = refl
one_halving_more zero (suc e) l = absurd (not-suc-le-zero l)
one_halving_more (suc k) zero l = refl
one_halving_more (suc k) (suc zero) l = refl
one_halving_more (suc k) (suc (suc n)) l = ap (λ (x : ℕ). x + 1 + suc (suc n) % 2) (one_halving_more k (suc (suc n) / 2) (half_le l))

enough_halvings : (k e : ℕ) → e ≤ k → multiplications_within k e ≡ multiplications_within e e
enough_halvings k e l = le_ind (λ (m : ℕ). multiplications_within m e ≡ multiplications_within e e) refl (λ m h r. one_halving_more m e h ∙ r) k l

-- From an exponent of 2 on: those of half the exponent, one more, and one more where it is odd.
pub multiplications_step : (e : ℕ) → 2 ≤ e → multiplications e ≡ multiplications (e / 2) + 1 + e % 2
unfolding multiplications multiplications_within
multiplications_step zero l = absurd (omega arith)
multiplications_step (suc zero) l = absurd (omega arith)
multiplications_step (suc (suc n)) l =
    ap (λ (x : ℕ). x + 1 + suc (suc n) % 2) (enough_halvings (suc n) (suc (suc n) / 2) (half_le (le_refl (suc (suc n)))))

at_most_within : (k e : ℕ) → multiplications_within k e ≤ e
unfolding multiplications_within
at_most_within zero e = zero-le
at_most_within (suc k) zero = zero-le
at_most_within (suc k) (suc zero) = zero-le
at_most_within (suc k) (suc (suc n)) = omega (arith, at_most_within k (suc (suc n) / 2))

-- There are at most as many as the exponent says.
pub multiplications_at_most : (e : ℕ) → multiplications e ≤ e
unfolding multiplications
multiplications_at_most e = at_most_within e e

-- ---- the closed form

-- For an exponent of k digits that is not 0, as a sum, so that nothing is cut off at 0.
pub multiplications_and_zeros : (k e : ℕ) → 0 < e → e < 2 ^ k → multiplications e + 2 + count_leading_zeros k e ≡ k + ones e
unfolding count_leading_zeros multiplications multiplications_within ones ones_in
multiplications_and_zeros zero e p h = absurd (omega arith)
multiplications_and_zeros (suc k) zero p h = absurd (omega arith)
multiplications_and_zeros (suc k) (suc zero) p h = omega (arith, leading_of_zero k)
multiplications_and_zeros (suc k) (suc (suc n)) p h =
    omega (
      arith,
      multiplications_and_zeros k (suc (suc n) / 2) (omega arith) (omega (arith, pow-suc 2 k)),
      multiplications_step (suc (suc n)) (omega arith),
      ones_step (suc (suc n)),
    )

-- A number that is not 0 has a digit that is set.
pub some_digit_set : (k e : ℕ) → 0 < e → e < 2 ^ k → 0 < ones e
unfolding ones ones_in
some_digit_set zero e p h = absurd (omega arith)
some_digit_set (suc k) zero p h = absurd (omega arith)
some_digit_set (suc k) (suc zero) p h = zero-lt-suc 0
some_digit_set (suc k) (suc (suc n)) p h =
    omega (arith, some_digit_set k (suc (suc n) / 2) (omega arith) (omega (arith, pow-suc 2 k)), ones_step (suc (suc n)))

-- The digits give the number for every exponent of the kind, 0 included.
pub by_digits : (K : Kind) (e : ℕ) → e < 2 ^ bits K → multiplications_by_digits K e ≡ multiplications e
unfolding multiplications_by_digits multiplications multiplications_within
by_digits K zero h = refl
by_digits K (suc e) h = rw (ne_eqb (suc e) 0 (λ q. omega arith)) count
  where
    count : (bits K - 1 - count_leading_zeros (bits K) (suc e)) + (ones (suc e) - 1) ≡ multiplications (suc e)
    count =
        omega (
          arith,
          multiplications_and_zeros (bits K) (suc e) (omega arith) h,
          (leading_top (bits K) (suc e) (omega arith) h).1,
          some_digit_set (bits K) (suc e) (omega arith) h,
        )

-- What is known of the digits of an exponent of w bits that is not 0.
pub record Digits (w e : ℕ) : Type 0 where
  pub some_digit : count_leading_zeros w e < w
  pub some_set : 1 ≤ ones e
  pub at_most : ones e ≤ w
  pub told : multiplications e + 2 + count_leading_zeros w e ≡ w + ones e

-- They are so for every such exponent.
pub digits : (w e : ℕ) → (e ≡ 0 → ⊥) → e < 2 ^ w → Digits w e
digits w e some l = record {
  some_digit = omega (arith, (leading_top w e positive l).1);
  some_set = some_digit_set w e positive l;
  at_most = ones-le w e l;
  told = multiplications_and_zeros w e positive l;
}
  where
    positive : 0 < e
    positive = omega arith

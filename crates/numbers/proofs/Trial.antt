-- Primality by trial division, computed by the checker.
-- Assumes nothing.
use Prim.Native.Nat.{ℕ, zero, suc, ◌*◌, ◌%◌, ◌/◌, ◌<◌, ◌≤◌, ◌∣◌}
use mathlib.Core.Path.{◌≡◌, refl, sym, ◌∙◌, subst}
use mathlib.Core.Logic.{◌⊎◌, inl, inr}
use mathlib.Core.Bool.{Bool, true, not, ◌&&◌}
use native.Mathlib.Nat.{le-suc_iff, mod-eq-zero_of_dvd, eq-zero_of_zero-dvd, mul-div_cancel', dvd-mul_left, mul-le-mul, mul-one, mul-zero}
use native.Mathlib.Decide.{dec_le}
use native.Mathlib.Omega.{arith}
use lib.Dec.{T, eqb}
use Rattle.numbers.specs.Prime.{IsPrime}
use Rattle.numbers.proofs.Table.{both_first, both_second}

-- None of 2, 3, .. k + 1 divides p.
unfoldable pub no_divisor : ℕ → ℕ → Bool
no_divisor p zero = true
no_divisor p (suc k) = not (eqb (p % suc (suc k)) 0) && no_divisor p k

not_zero : (r : ℕ) → T (not (eqb r 0)) → r ≡ 0 → ⊥
not_zero zero t e = t
not_zero (suc r) t e = omega arith

none_divides : (p k : ℕ) → T (no_divisor p k) → (d : ℕ) → 2 ≤ d → d ≤ suc k → d ∣ p → ⊥
unfolding no_divisor
none_divides p zero t d l u h = omega arith
none_divides p (suc k) t d l u h =
    split (λ v. none_divides p k (both_second (not (eqb (p % suc (suc k)) 0)) (no_divisor p k) t) d l v h) (le-suc_iff.0 u)
  where
    split : (d ≤ suc k → ⊥) → (d ≤ suc k) ⊎ (d ≡ suc (suc k)) → ⊥
    split lower (inl v) = lower v
    split lower (inr e) =
        not_zero (p % suc (suc k)) (both_first (not (eqb (p % suc (suc k)) 0)) (no_divisor p k) t)
        (mod-eq-zero_of_dvd (suc (suc k)) (subst (λ (x : ℕ). x ∣ p) e h))

-- A number with no divisor up to k + 1 that is below the square of k + 2 is a prime.
pub prime_by_trial : (p k : ℕ) → 1 < p → p < suc (suc k) * suc (suc k) → T (no_divisor p k) → IsPrime p
prime_by_trial p k above small t = record { above_one = above; only = only }
  where
    too_large : (d e : ℕ) → d * e ≡ p → suc (suc k) ≤ d → suc (suc k) ≤ e → ⊥
    too_large d e q hd he = omega (arith, mul-le-mul hd he)

    cofactor : (d e : ℕ) → d * e ≡ p → suc (suc k) ≤ d → (d ≡ 1) ⊎ (d ≡ p)
    cofactor d zero q hd = absurd (omega (arith, mul-zero d))
    cofactor d (suc zero) q hd = inr (sym (mul-one d) ∙ q)
    cofactor d (suc (suc e)) q hd = pick (dec_le (suc (suc e)) (suc k))
      where
        pick : Dec (suc (suc e) ≤ suc k) → (d ≡ 1) ⊎ (d ≡ p)
        pick (yes v) = absurd (none_divides p k t (suc (suc e)) (omega arith) v (subst (λ (x : ℕ). suc (suc e) ∣ x) q (dvd-mul_left (suc (suc e)) d)))
        pick (no v) = absurd (too_large d (suc (suc e)) q hd (omega arith))

    only : (d : ℕ) → d ∣ p → (d ≡ 1) ⊎ (d ≡ p)
    only zero h = absurd (omega (arith, eq-zero_of_zero-dvd h))
    only (suc zero) h = inl refl
    only (suc (suc d)) h = pick (dec_le (suc (suc d)) (suc k))
      where
        pick : Dec (suc (suc d) ≤ suc k) → (suc (suc d) ≡ 1) ⊎ (suc (suc d) ≡ p)
        pick (yes v) = absurd (none_divides p k t (suc (suc d)) (omega arith) v h)
        pick (no v) = cofactor (suc (suc d)) (p / suc (suc d)) (mul-div_cancel' (suc (suc d)) h) (omega arith)

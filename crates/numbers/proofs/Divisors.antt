-- Prime divisors: each number above one has one, and a number all of whose prime divisors are above its root is a prime.
-- Assumes nothing.
use Prim.Native.Nat.{ℕ, zero, suc, ◌+◌, ◌-◌, ◌*◌, ◌/◌, ◌<◌, ◌≤◌, ◌∣◌}
use mathlib.Core.Path.{◌≡◌, refl, sym, ◌∙◌, subst}
use mathlib.Core.Logic.{◌⊎◌, inl, inr, ⊎_swap}
use native.Mathlib.Nat.{mul-zero, mul-one, dvd_refl, dvd_trans, dvd-mul_left, dvd-mul_right, le_of_dvd, eq-zero_of_zero-dvd, mul-div_cancel'}
use native.Mathlib.Nat.{mul-dvd-mul_left, mul-le-mul, mul-le-mul_left, mul-le-mul_right, eq-or-lt_of_le, le_of_suc-le-suc}
use native.Mathlib.Decide.{dec_dvd, dec_le}
use native.Mathlib.Omega.{arith}
use Rattle.numbers.specs.Prime.{IsPrime}
use Rattle.numbers.proofs.Euclid.{euclid}

-- A divisor of n above one with none below it.
record LeastDivisor (n : ℕ) : Type 0 where
  divisor : ℕ
  above_one : 2 ≤ divisor
  divides : divisor ∣ n
  none_below : (e : ℕ) → 2 ≤ e → e < divisor → e ∣ n → ⊥

-- Searched for upwards from k, with f candidates left.
least_from : (n f k : ℕ) → 2 ≤ k → k + f ≡ n → ((e : ℕ) → 2 ≤ e → e < k → e ∣ n → ⊥) → LeastDivisor n
least_from n zero k l s h = record { divisor = k; above_one = l; divides = subst (λ (x : ℕ). k ∣ x) whole (dvd_refl k); none_below = h }
  where
    whole : k ≡ n
    whole = omega arith
least_from n (suc f) k l s h = pick (least_from n f (suc k) (omega arith) (omega arith)) (dec_dvd k n)
  where
    pick : (((e : ℕ) → 2 ≤ e → e < suc k → e ∣ n → ⊥) → LeastDivisor n) → Dec (k ∣ n) → LeastDivisor n
    pick further (yes v) = record { divisor = k; above_one = l; divides = v; none_below = h }
    pick further (no v) = further (λ e g u w. split e (⊎_swap (eq-or-lt_of_le (le_of_suc-le-suc u))) g w)
      where
        split : (e : ℕ) → (e < k) ⊎ (e ≡ k) → 2 ≤ e → e ∣ n → ⊥
        split e (inl u) g w = h e g u w
        split e (inr q) g w = v (subst (λ (x : ℕ). x ∣ n) q w)

-- Each number above one has a prime divisor: its least one.
pub prime_divisor : (n : ℕ) → 2 ≤ n → (d : ℕ) × IsPrime d × (d ∣ n)
prime_divisor n l = (D.divisor, record { above_one = D.above_one; only = only }, D.divides)
  where
    D : LeastDivisor n
    D = least_from n (n - 2) 2 (omega arith) (omega arith) (λ e g u w. omega arith)

    only : (e : ℕ) → e ∣ D.divisor → (e ≡ 1) ⊎ (e ≡ D.divisor)
    only zero h = absurd (omega (arith, eq-zero_of_zero-dvd h, D.above_one))
    only (suc zero) h = inl refl
    only (suc (suc e)) h = inr (end (eq-or-lt_of_le (le_of_dvd (omega (arith, D.above_one)) h)))
      where
        end : (suc (suc e) ≡ D.divisor) ⊎ (suc (suc e) < D.divisor) → suc (suc e) ≡ D.divisor
        end (inl q) = q
        end (inr u) = absurd (D.none_below (suc (suc e)) (omega arith) u (dvd_trans (suc (suc e)) h D.divides))

-- A number whose prime divisors are all above its root is a prime.
pub prime_of_large_divisors : (n : ℕ) → 1 < n → ((d : ℕ) → IsPrime d → d ∣ n → n < d * d) → IsPrime n
prime_of_large_divisors n above large = record { above_one = above; only = only }
  where
    all_large : (e : ℕ) → 2 ≤ e → e ∣ n → n < e * e
    all_large e l h = by (prime_divisor e l)
      where
        by : (d : ℕ) × IsPrime d × (d ∣ e) → n < e * e
        by D = omega (arith, large D.0 D.1 (dvd_trans D.0 D.2 h), mul-le-mul (le_of_dvd (omega arith) D.2) (le_of_dvd (omega arith) D.2))

    cofactor : (e f : ℕ) → e * f ≡ n → 2 ≤ e → (e ≡ 1) ⊎ (e ≡ n)
    cofactor e zero q l = absurd (omega (arith, mul-zero e))
    cofactor e (suc zero) q l = inr (sym (mul-one e) ∙ q)
    cofactor e (suc (suc f)) q l = absurd (clash (dec_le e g))
      where
        g : ℕ
        g = suc (suc f)

        large_e : n < e * e
        large_e = all_large e l (subst (λ (x : ℕ). e ∣ x) q (dvd-mul_right e g))

        large_g : n < g * g
        large_g = all_large g (omega arith) (subst (λ (x : ℕ). g ∣ x) q (dvd-mul_left g e))

        clash : Dec (e ≤ g) → ⊥
        clash (yes u) = omega (arith, large_e, mul-le-mul_left e u)
        clash (no u) = omega (arith, large_g, mul-le-mul_right g (let v : g ≤ e = omega arith in v))

    only : (e : ℕ) → e ∣ n → (e ≡ 1) ⊎ (e ≡ n)
    only zero h = absurd (omega (arith, eq-zero_of_zero-dvd h))
    only (suc zero) h = inl refl
    only (suc (suc e)) h = cofactor (suc (suc e)) (n / suc (suc e)) (mul-div_cancel' (suc (suc e)) h) (omega arith)

-- Where two different primes divide a number, so does their product.
pub product_divides : (p q x : ℕ) → IsPrime p → IsPrime q → (q ≡ p → ⊥) → p ∣ x → q ∣ x → p * q ∣ x
product_divides p q x P Q differ hp hq =
    subst (λ (z : ℕ). p * q ∣ z) (mul-div_cancel' p hp)
    (mul-dvd-mul_left q p (pick (euclid q Q p (x / p) (subst (λ (z : ℕ). q ∣ z) (sym (mul-div_cancel' p hp)) hq))))
  where
    not_of_p : (q ≡ 1) ⊎ (q ≡ p) → ⊥
    not_of_p (inl e) = omega (arith, Q.above_one)
    not_of_p (inr e) = differ e

    pick : (q ∣ p) ⊎ (q ∣ x / p) → q ∣ x / p
    pick (inl h) = absurd (not_of_p (P.only q h))
    pick (inr h) = h

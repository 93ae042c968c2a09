-- Euclid's lemma, and what it says of products modulo a prime. For any prime.
-- Assumes nothing.
use Prim.Native.Nat.{ℕ, zero, suc, ◌+◌, ◌-◌, ◌*◌, ◌%◌, ◌/◌, ◌<◌, ◌≤◌, ◌∣◌}
use mathlib.Core.Path.{◌≡◌, sym, ◌∙◌, ap, subst}
use mathlib.Core.Logic.{◌⊎◌, inl, inr, ⊎_map}
use native.Mathlib.Nat.{le_of_dvd, mod-add-div, mul-sub, one-mul, mod-lt, dvd_of_mod-eq-zero, mod-eq-zero_of_dvd, dvd-mul_right, dvd-mul_right_of_dvd}
use native.Mathlib.Nat.{dvd-add_iff_left, eq-zero-or-pos}
use native.Mathlib.Omega.{arith}
use Rattle.std.proofs.lemmas.Nat.{mul-mod_first}
use Rattle.numbers.specs.Prime.{IsPrime}
use Rattle.numbers.proofs.Congruence.{divides_difference, congruent_of_divides, greater_first}

module _ (p : ℕ) (P : IsPrime p) where
  -- A prime is above 0.
  pub positive : 0 < p
  positive = omega (arith, P.above_one)

  -- No number from 1 to p - 1 is divided by p.
  pub divides_none_below : (k : ℕ) → 0 < k → k < p → p ∣ k → ⊥
  divides_none_below k l u h = omega (arith, le_of_dvd l h)

  -- The lemma for a factor below the prime, by descent: p % a is smaller than a, and p divides its product with b too.
  divides_other : (n a b : ℕ) → a ≤ n → 0 < a → a < p → p ∣ a * b → p ∣ b
  divides_other zero a b u l v h = absurd (omega arith)
  divides_other (suc n) zero b u l v h = absurd (omega arith)
  divides_other (suc n) (suc zero) b u l v h = subst (λ (x : ℕ). p ∣ x) (one-mul b) h
  divides_other (suc n) (suc (suc a)) b u l v h = divides_other n r b (omega (arith, small)) above_zero (omega (arith, small)) less
    where
      d : ℕ
      d = suc (suc a)

      r : ℕ
      r = p % d

      small : r < d
      small = mod-lt p (omega arith)

      above_zero : 0 < r
      above_zero = pick (eq-zero-or-pos r)
        where
          no_divisor_lem : (d ≡ 1) ⊎ (d ≡ p) → ⊥
          no_divisor_lem (inl e) = omega arith
          no_divisor_lem (inr e) = omega arith

          pick : (r ≡ 0) ⊎ (0 < r) → 0 < r
          pick (inl e) = absurd (no_divisor_lem (P.only d (dvd_of_mod-eq-zero d e)))
          pick (inr x) = x

      split : r * b + d * b * (p / d) ≡ p * b
      split = omega (arith, ap (λ (x : ℕ). x * b) (mod-add-div p d))

      less : p ∣ r * b
      less = (dvd-add_iff_left p (dvd-mul_right_of_dvd p h (p / d))).1 (subst (λ (x : ℕ). p ∣ x) (sym split) (dvd-mul_right p b))

  -- Euclid's lemma: a prime that divides a product divides a factor.
  pub euclid : (a b : ℕ) → p ∣ a * b → (p ∣ a) ⊎ (p ∣ b)
  euclid a b h = pick (eq-zero-or-pos (a % p))
    where
      pick : (a % p ≡ 0) ⊎ (0 < a % p) → (p ∣ a) ⊎ (p ∣ b)
      pick (inl e) = inl (dvd_of_mod-eq-zero p e)
      pick (inr l) =
          inr (divides_other p (a % p) b (omega (arith, mod-lt a positive)) l (mod-lt a positive)
          (dvd_of_mod-eq-zero p (mul-mod_first a b p ∙ mod-eq-zero_of_dvd p h)))

  -- There are no zero divisors: a product that leaves 0 has a factor that leaves 0.
  pub no_zero_divisors : (a b : ℕ) → a * b % p ≡ 0 → (a % p ≡ 0) ⊎ (b % p ≡ 0)
  no_zero_divisors a b e = ⊎_map (mod-eq-zero_of_dvd p) (mod-eq-zero_of_dvd p) (euclid a b (dvd_of_mod-eq-zero p e))

  -- A factor from 1 to p - 1 on both sides may be left out.
  pub cancel_mul : (k a b : ℕ) → 0 < k → k < p → (k * a) % p ≡ (k * b) % p → a % p ≡ b % p
  cancel_mul k a b l u e = greater_first p a b (λ v. half a b v e) (λ v. half b a v (sym e))
    where
      half : (a b : ℕ) → b ≤ a → (k * a) % p ≡ (k * b) % p → a % p ≡ b % p
      half a b v e =
          congruent_of_divides a b p v (pick (euclid k (a - b) (subst (λ (x : ℕ). p ∣ x) (sym (mul-sub k a b)) (divides_difference (k * a) (k * b) p e))))
        where
          pick : (p ∣ k) ⊎ (p ∣ a - b) → p ∣ a - b
          pick (inl h) = absurd (divides_none_below k l u h)
          pick (inr h) = h

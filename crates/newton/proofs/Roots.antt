-- Roots of the product: Horner's value of its coefficients is its value, and modulo a prime that is 0 exactly at the members.
-- Assumes nothing.
use Prim.Native.Nat.{ℕ, zero, suc, ◌+◌, ◌-◌, ◌*◌, ◌%◌, ◌/◌, ◌<◌, ◌∣◌}
use mathlib.Core.Path.{◌≡◌, refl, ◌∙◌, ap, subst}
use mathlib.Core.Logic.{◌⊎◌, inl, inr}
use mathlib.Core.List.{List, [], ◌∷◌, Memᴰ}
use native.Mathlib.Nat.{dvd_refl, dvd-mul_right_of_dvd, dvd-mul_left_of_dvd, mul-div_cancel', mod-eq_of_lt, mod-eq-zero_of_dvd, dvd_of_mod-eq-zero}
use native.Mathlib.Omega.{arith}
use lib.ListN.{length}
use Rattle.numbers.specs.Prime.{IsPrime}
use Rattle.numbers.proofs.Euclid.{no_zero_divisors}
use Rattle.newton.specs.Members.{AllBelow}
use Rattle.newton.specs.Polynomial.{coefficient, product, horner}

module _ (p : ℕ) where
  -- ---- the value

  none_past_length : (rs : List ℕ) (k : ℕ) → length rs < k → coefficient p rs k ≡ 0
  none_past_length rs zero l = absurd (omega arith)
  none_past_length [] (suc k) l = refl
  none_past_length (r ∷ rs) (suc k) l = rw (none_past_length rs (suc k) (omega arith), none_past_length rs k (omega arith)) (nothing (p - r))
    where
      nothing : (s : ℕ) → 0 + s * 0 ≡ 0
      nothing s = omega arith

  horner_of_cons : (r : ℕ) (rs : List ℕ) (x n : ℕ)
      → horner (coefficient p (r ∷ rs)) x (suc n) ≡ horner (coefficient p rs) x (suc n) + (p - r) * horner (coefficient p rs) x n
  horner_of_cons r rs x zero = first (coefficient p rs 0) (coefficient p rs 1) (p - r)
    where
      first : (a b s : ℕ) → x * a + (b + s * a) ≡ (x * a + b) + s * a
      first a b s = omega arith
  horner_of_cons r rs x (suc n) =
      ap (λ (z : ℕ). x * z + (coefficient p rs (suc (suc n)) + (p - r) * coefficient p rs (suc n))) (horner_of_cons r rs x n)
      ∙ regrouped (p - r) (horner (coefficient p rs) x (suc n)) (horner (coefficient p rs) x n) (coefficient p rs (suc (suc n))) (coefficient p rs (suc n))
    where
      regrouped : (s u v a b : ℕ) → x * (u + s * v) + (a + s * b) ≡ (x * u + a) + s * (x * v + b)
      regrouped s u v a b = omega arith

  -- Horner's value of the coefficients is the product's value.
  pub horner_is_product : (rs : List ℕ) (x : ℕ) → horner (coefficient p rs) x (length rs) ≡ product p rs x
  horner_is_product [] x = refl
  horner_is_product (r ∷ rs) x =
      horner_of_cons r rs x (length rs)
      ∙ factored (p - r) (horner (coefficient p rs) x (length rs)) (coefficient p rs (suc (length rs))) (none_past_length rs (suc (length rs)) (omega arith))
      ∙ ap (λ (z : ℕ). (x + (p - r)) * z) (horner_is_product rs x)
    where
      factored : (s u a : ℕ) → a ≡ 0 → (x * u + a) + s * u ≡ (x + s) * u
      factored s u a e = omega arith

  -- ---- the roots

  same_residue : (x r : ℕ) → x < p → r < p → (x + (p - r)) % p ≡ 0 → x ≡ r
  same_residue x r lx lr e = by_quotient ((x + (p - r)) / p) (mul-div_cancel' p (dvd_of_mod-eq-zero p e))
    where
      by_quotient : (q : ℕ) → p * q ≡ x + (p - r) → x ≡ r
      by_quotient zero e = absurd (omega arith)
      by_quotient (suc zero) e = omega arith
      by_quotient (suc (suc q)) e = absurd (omega arith)

  -- At a member the product is 0 modulo p.
  pub member_is_root : {x : ℕ} {rs : List ℕ} → AllBelow p rs → Memᴰ x rs → product p rs x % p ≡ 0
  member_is_root {x} below (Memᴰ.head {x = r} {xs = rs} e) =
      mod-eq-zero_of_dvd p (dvd-mul_right_of_dvd p (subst (λ (z : ℕ). p ∣ z) whole (dvd_refl p)) (product p rs x))
    where
      whole : p ≡ x + (p - r)
      whole = omega arith
  member_is_root {x} below (Memᴰ.tail {x = r} {xs = rs} m) =
      mod-eq-zero_of_dvd p (dvd-mul_left_of_dvd p (dvd_of_mod-eq-zero p (member_is_root below.1 m)) (x + (p - r)))

  module _ (P : IsPrime p) where
    -- A residue at which the product is 0 modulo a prime is a member.
    pub root_is_member : (rs : List ℕ) (x : ℕ) → AllBelow p rs → x < p → product p rs x % p ≡ 0 → Memᴰ x rs
    root_is_member [] x below l e = absurd (omega (arith, mod-eq_of_lt P.above_one))
    root_is_member (r ∷ rs) x below l e = pick (root_is_member rs x below.1 l) (no_zero_divisors p P (x + (p - r)) (product p rs x) e)
      where
        pick : (product p rs x % p ≡ 0 → Memᴰ x rs) → ((x + (p - r)) % p ≡ 0) ⊎ (product p rs x % p ≡ 0) → Memᴰ x (r ∷ rs)
        pick later (inl z) = Memᴰ.head (same_residue x r l below.0 z)
        pick later (inr z) = Memᴰ.tail (later z)

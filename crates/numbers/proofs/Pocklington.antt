-- Pocklington's test: a prime q of which a multiple q · r is n - 1, and a number a whose power n - 1 leaves 1 modulo n while its power r, less 1,
-- has an inverse c, show that every prime divisor of n is one more than a multiple of q.
-- Assumes nothing.
use Prim.Native.Nat.{ℕ, suc, ◌+◌, ◌-◌, ◌*◌, ◌%◌, ◌/◌, ◌^◌, ◌<◌, ◌≤◌, ◌∣◌}
use mathlib.Core.Path.{◌≡◌, sym, ◌∙◌, ap, subst}
use native.Mathlib.Nat.{mod-add-div, mul_comm, mul-one, pow-succ', dvd-mul_right_of_dvd, le_of_dvd, mul-le-mul, mod-eq-zero_of_dvd, dvd_of_mod-eq-zero}
use native.Mathlib.Nat.{mod-mod_of_dvd, mod-eq_of_lt, mod-add-mod}
use native.Mathlib.Decide.{dec_dvd}
use native.Mathlib.Omega.{arith}
use lib.Dec.{T, eqb, eqb→eq}
use Rattle.std.proofs.lemmas.Nat.{mul-mod_second}
use Rattle.numbers.specs.Prime.{IsPrime}
use Rattle.numbers.specs.Power.{power_mod}
use Rattle.numbers.proofs.Fermat.{fermat_one}
use Rattle.numbers.proofs.Power.{pow_pow, pow_leaves_one, power_mod_lem}

module _ (n q r a c : ℕ) (Q : IsPrime q) (whole : suc (q * r) ≡ n) (leaves_one : a ^ (q * r) % n ≡ 1)
    (has_inverse : (a ^ r % n + (n - 1)) * c % n ≡ 1) (d : ℕ) (D : IsPrime d) (divides : d ∣ n) where
  b : ℕ
  b = a ^ r

  one_left : 1 % d ≡ 1
  one_left = mod-eq_of_lt D.above_one

  power_q : b ^ q % d ≡ 1 % d
  unfolding b
  power_q = ap (λ (x : ℕ). x % d) (pow_pow a r q) ∙ sym (mod-mod_of_dvd d (a ^ (q * r)) divides) ∙ ap (λ (x : ℕ). x % d) leaves_one

  coprime : d ∣ b → ⊥
  coprime w = omega (arith, leaves_zero, power_q, one_left)
    where
      next : q ≡ suc (q - 1)
      next = omega (arith, Q.above_one)

      leaves_zero : b ^ q % d ≡ 0
      leaves_zero =
          mod-eq-zero_of_dvd d
          (subst (λ (x : ℕ). d ∣ b ^ x) (sym next) (subst (λ (x : ℕ). d ∣ x) (sym (pow-succ' b (q - 1))) (dvd-mul_right_of_dvd d w (b ^ (q - 1)))))

  -- The exponents d - 1 and q both leave 1, and where q does not divide d - 1, they leave 1 for b itself.
  order_one : (q ∣ d - 1 → ⊥) → b % d ≡ 1 % d
  order_one nd = sym at_b ∙ ap (λ (x : ℕ). b ^ x % d) (sym y_is) ∙ by_d
    where
      x : ℕ
      x = d - 1

      y : ℕ
      y = x ^ (q - 1)

      y_leaves : y % q ≡ 1
      y_leaves = fermat_one q Q x nd ∙ mod-eq_of_lt Q.above_one

      y_is : y ≡ suc (y / q * q)
      y_is = omega (arith, mod-add-div y q, y_leaves)

      previous : q - 1 ≡ suc (q - 2)
      previous = omega (arith, Q.above_one)

      y_multiple : y ≡ x ^ (q - 2) * x
      y_multiple = ap (λ (z : ℕ). x ^ z) previous ∙ pow-succ' x (q - 2) ∙ mul_comm x (x ^ (q - 2))

      by_d : b ^ y % d ≡ 1 % d
      by_d = ap (λ (z : ℕ). b ^ z % d) y_multiple ∙ pow_leaves_one b x (x ^ (q - 2)) d (fermat_one d D b coprime)

      at_b : b ^ suc (y / q * q) % d ≡ b % d
      at_b = rw (pow-succ' b (y / q * q), ← mul-mod_second b (b ^ (y / q * q)) d, pow_leaves_one b q (y / q) d power_q, mul-mod_second b 1 d, mul-one b)

  -- But b less 1 has an inverse.
  order_not_one : b % d ≡ 1 % d → ⊥
  unfolding b
  order_not_one e = omega (arith, one_left, ap (λ (x : ℕ). x % d) has_inverse, mod-mod_of_dvd d ((a ^ r % n + (n - 1)) * c) divides, product_zero)
    where
      factor_zero : (a ^ r % n + (n - 1)) % d ≡ 0
      factor_zero =
          sym (mod-add-mod (a ^ r % n) d (n - 1)) ∙ ap (λ (x : ℕ). (x + (n - 1)) % d) (mod-mod_of_dvd d (a ^ r) divides ∙ e) ∙ mod-add-mod 1 d (n - 1)
          ∙ ap (λ (x : ℕ). x % d) (omega arith) ∙ mod-eq-zero_of_dvd d divides

      product_zero : (a ^ r % n + (n - 1)) * c % d ≡ 0
      product_zero = mod-eq-zero_of_dvd d (dvd-mul_right_of_dvd d (dvd_of_mod-eq-zero d factor_zero) c)

  -- So the divisor d is one more than a multiple of q.
  pub divisor_of_multiple : q ∣ d - 1
  divisor_of_multiple = pick (dec_dvd q (d - 1))
    where
      pick : Dec (q ∣ d - 1) → q ∣ d - 1
      pick (yes v) = v
      pick (no v) = absurd (order_not_one (order_one v))

-- The same from three tests that the checker computes.
pub pocklington : (n q r a c : ℕ) → IsPrime q → T (eqb (suc (q * r)) n) → T (eqb (power_mod n a (q * r)) 1) → T (eqb ((power_mod n a r + (n - 1)) * c % n) 1)
    → (d : ℕ) → IsPrime d → d ∣ n → q ∣ d - 1
pocklington n q r a c Q whole leaves_one has_inverse =
    divisor_of_multiple n q r a c Q (eqb→eq (suc (q * r)) n whole) (sym (power_mod_lem n a (q * r)) ∙ eqb→eq (power_mod n a (q * r)) 1 leaves_one)
    (subst (λ (z : ℕ). (z + (n - 1)) * c % n ≡ 1) (power_mod_lem n a r) (eqb→eq ((power_mod n a r + (n - 1)) * c % n) 1 has_inverse))

-- A divisor d of which d - 1 is a multiple of F is above the root of n, where n is below the square of F + 1.
pub large_divisor : (F n d : ℕ) → n < suc F * suc F → 1 < d → F ∣ d - 1 → n < d * d
large_divisor F n d small above h = omega (arith, mul-le-mul least least)
  where
    least : suc F ≤ d
    least = omega (arith, le_of_dvd {n = d - 1} (omega arith) h)

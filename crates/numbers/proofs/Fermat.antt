-- Fermat's little theorem, for any prime: by the binomial theorem, since a prime divides every binomial number but the first and the last.
-- Assumes nothing.
use Prim.Native.Nat.{ℕ, zero, suc, ◌+◌, ◌-◌, ◌*◌, ◌%◌, ◌^◌, ◌<◌, ◌∣◌}
use mathlib.Core.Path.{◌≡◌, refl, sym, ◌∙◌, ap, ap₂, subst}
use mathlib.Core.Logic.{◌⊎◌, inl, inr}
use native.Mathlib.Nat.{mul-one, pow-zero, pow-succ', dvd-zero, dvd-mul_right, dvd-mul_right_of_dvd, zero-mul, one-le-pow, eq-zero-or-pos, mul-sub}
use native.Mathlib.Numerals.{add-one}
use native.Mathlib.Omega.{arith}
use Rattle.numbers.specs.Prime.{IsPrime}
use Rattle.numbers.proofs.Congruence.{divides_difference, congruent_of_divides, add_congruent}
use Rattle.numbers.proofs.Euclid.{euclid, divides_none_below}
use Rattle.numbers.proofs.Binomial.{sum_to, sum_first, sum_divides, choose, choose_all, choose_marked, binomial}

module _ (p : ℕ) (P : IsPrime p) where
  divides_choose : (n k : ℕ) → suc n ≡ p → k < n → p ∣ choose (suc n) (suc k)
  divides_choose n k e l =
      pick (euclid p P (suc k) (choose (suc n) (suc k)) (subst (λ (x : ℕ). p ∣ x) (sym (choose_marked n k))
      (subst (λ (x : ℕ). x ∣ suc n * choose n k) e (dvd-mul_right (suc n) (choose n k)))))
    where
      pick : (p ∣ suc k) ⊎ (p ∣ choose (suc n) (suc k)) → p ∣ choose (suc n) (suc k)
      pick (inl h) = absurd (divides_none_below p P (suc k) (omega arith) (omega arith) h)
      pick (inr h) = h

  successor_power : (a n : ℕ) → suc n ≡ p → suc a ^ p % p ≡ suc (a ^ p) % p
  successor_power a n e = congruent_of_divides (suc a ^ p) (suc (a ^ p)) p (omega (arith, sum)) (subst (λ (x : ℕ). p ∣ x) difference divides_middle)
    where
      middle : ℕ
      middle = sum_to (λ k. choose (suc n) (suc k) * a ^ suc k) n

      divides_middle : p ∣ middle
      divides_middle = sum_divides p (λ k. choose (suc n) (suc k) * a ^ suc k) n (λ k l. dvd-mul_right_of_dvd p (divides_choose n k e l) (a ^ suc k))

      ends : suc a ^ suc n ≡ middle + suc (a ^ suc n)
      ends = omega (arith, binomial a (suc n), sum_first (λ k. choose (suc n) k * a ^ k) n, pow-zero a, ap (λ (x : ℕ). x * a ^ suc n) (choose_all (suc n)))

      sum : suc a ^ p ≡ middle + suc (a ^ p)
      sum = subst (λ (x : ℕ). suc a ^ x ≡ middle + suc (a ^ x)) e ends

      difference : middle ≡ suc a ^ p - suc (a ^ p)
      difference = omega (arith, sum)

  -- Fermat's little theorem: the power p leaves what the number leaves.
  pub fermat : (a : ℕ) → a ^ p % p ≡ a % p
  fermat a = at p refl a
    where
      by_steps : (n : ℕ) → suc n ≡ p → (a : ℕ) → a ^ p % p ≡ a % p
      by_steps n e zero = subst (λ (x : ℕ). 0 ^ x % p ≡ 0 % p) e (ap (λ (z : ℕ). z % p) (pow-succ' 0 n ∙ zero-mul (0 ^ n)))
      by_steps n e (suc a) =
          successor_power a n e ∙ ap (λ (z : ℕ). z % p) (sym (add-one (a ^ p))) ∙ add_congruent p (a ^ p) a 1 1 (by_steps n e a) refl
          ∙ ap (λ (z : ℕ). z % p) (add-one a)

      at : (q : ℕ) → q ≡ p → (a : ℕ) → a ^ p % p ≡ a % p
      at zero e a = absurd (omega (arith, P.above_one))
      at (suc n) e a = by_steps n e a

  -- The power p - 1 of a number that p does not divide leaves 1.
  pub fermat_one : (a : ℕ) → (p ∣ a → ⊥) → a ^ (p - 1) % p ≡ 1 % p
  fermat_one a na = congruent_of_divides (a ^ (p - 1)) 1 p (one-le-pow (p - 1) a above_zero) (pick (euclid p P a (a ^ (p - 1) - 1) whole))
    where
      above_zero : 0 < a
      above_zero = split (eq-zero-or-pos a)
        where
          split : (a ≡ 0) ⊎ (0 < a) → 0 < a
          split (inl e) = absurd (na (subst (λ (x : ℕ). p ∣ x) (sym e) (dvd-zero p)))
          split (inr l) = l

      next : suc (p - 1) ≡ p
      next = omega (arith, P.above_one)

      product : a * a ^ (p - 1) ≡ a ^ p
      product = sym (pow-succ' a (p - 1)) ∙ ap (λ (x : ℕ). a ^ x) next

      whole : p ∣ a * (a ^ (p - 1) - 1)
      whole = subst (λ (x : ℕ). p ∣ x) (sym (mul-sub a (a ^ (p - 1)) 1 ∙ ap₂ ◌-◌ product (mul-one a))) (divides_difference (a ^ p) a p (fermat a))

      pick : (p ∣ a) ⊎ (p ∣ a ^ (p - 1) - 1) → p ∣ a ^ (p - 1) - 1
      pick (inl h) = absurd (na h)
      pick (inr h) = h

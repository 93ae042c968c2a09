-- Inverses modulo a prime: the inverse is the power p - 2, which answers 0 at 0, and there is only one.
-- Assumes nothing.
use Prim.Native.Nat.{ℕ, suc, ◌-◌, ◌*◌, ◌%◌, ◌^◌, ◌<◌, ◌∣◌}
use mathlib.Core.Path.{◌≡◌, sym, ◌∙◌, ap}
use native.Mathlib.Nat.{pow-succ', mod-eq_of_lt, zero-mul, zero-mod}
use native.Mathlib.Omega.{arith}
use Rattle.numbers.specs.Prime.{IsPrime}
use Rattle.numbers.proofs.Fermat.{fermat_one}

module _ (p : ℕ) (P : IsPrime p) where
  -- A number that p does not divide, times its power p - 2, leaves 1.
  pub inverse_is_power : (a : ℕ) → (p ∣ a → ⊥) → a * a ^ (p - 2) % p ≡ 1
  inverse_is_power a na =
      ap (λ (x : ℕ). x % p) (sym (pow-succ' a (p - 2)) ∙ ap (λ (x : ℕ). a ^ x) next) ∙ fermat_one p P a na ∙ mod-eq_of_lt P.above_one
    where
      next : suc (p - 2) ≡ p - 1
      next = omega (arith, P.above_one)

  -- The power p - 2 of 0 is 0, for an odd prime: its exponent is not 0.
  pub inverse_of_zero : 2 < p → 0 ^ (p - 2) % p ≡ 0
  inverse_of_zero odd = ap (λ (x : ℕ). x % p) (ap (λ (x : ℕ). 0 ^ x) some ∙ pow-succ' 0 (p - 3) ∙ zero-mul (0 ^ (p - 3))) ∙ zero-mod p
    where
      some : p - 2 ≡ suc (p - 3)
      some = omega arith

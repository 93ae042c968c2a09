-- The size of a product, at every width.
-- Assumes nothing.
use Prim.Native.Nat.{ℕ, suc, ◌+◌, ◌-◌, ◌*◌, ◌^◌, ◌<◌}
use mathlib.Core.Path.{◌≡◌, subst, subst⁻¹}
use native.Mathlib.Nat.{mul-le-mul}
use native.Mathlib.Omega.{arith}
use lib.Pow.{pow_pos, pow-add}

-- A product of two numbers of k bits, and a third one added, have at most k + k bits.
pub product_and_term_below : (k : ℕ) {a b c : ℕ} → a < 2 ^ k → b < 2 ^ k → c < 2 ^ k → a * b + c < 2 ^ (k + k)
product_and_term_below k {a} {b} {c} ha hb hc = subst⁻¹ (λ (n : ℕ). a * b + c < n) (pow-add 2 k k) (below (2 ^ k - 1) (omega (arith, pow_pos k)))
  where
    below : (m : ℕ) → suc m ≡ 2 ^ k → a * b + c < 2 ^ k * 2 ^ k
    below m e = subst (λ (n : ℕ). a * b + c < n * n) e (omega (arith, mul-le-mul {n₁ = a} {m₁ = b} {n₂ = m} {m₂ = m} (omega arith) (omega arith)))

-- The product alone.
pub product_below : (k : ℕ) {a b : ℕ} → a < 2 ^ k → b < 2 ^ k → a * b < 2 ^ (k + k)
product_below k {a} {b} ha hb = omega (arith, product_and_term_below k ha hb (pow_pos k))

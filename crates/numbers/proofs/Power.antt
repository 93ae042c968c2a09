-- The power by halving is the power, and laws of powers.
-- Assumes nothing.
use Prim.Native.Nat.{ℕ, zero, suc, ◌+◌, ◌*◌, ◌%◌, ◌/◌, ◌^◌, ◌≤◌}
use mathlib.Core.Path.{◌≡◌, refl, sym, ◌∙◌, ap}
use mathlib.Core.Bool.{Bool, true, false, cond}
use native.Mathlib.Nat.{mul_comm, one-mul, zero-mul, suc-mul, pow-zero, pow-suc, pow-succ', le_refl}
use native.Mathlib.Omega.{arith}
use lib.Arith.{half_le}
use lib.Dec.{eqb}
use lib.Pow.{pow-add}
use borrow.Author.Tests.{eqb-true, eqb-false}
use Rattle.std.proofs.lemmas.Nat.{mul-mod, mul-mod_first, pow-mod}
use Rattle.numbers.specs.Power.{power_within, power_mod}

-- A number to the power 1 is the number.
pub pow_one : (a : ℕ) → a ^ 1 ≡ a
pow_one a = pow-suc a 0 ∙ ap (λ (x : ℕ). x * a) (pow-zero a) ∙ one-mul a

-- Every power of 1 is 1.
pub one_pow : (k : ℕ) → 1 ^ k ≡ 1
one_pow zero = pow-zero 1
one_pow (suc k) = pow-succ' 1 k ∙ one-mul (1 ^ k) ∙ one_pow k

-- A power of a power has the product of the exponents.
pub pow_pow : (a j k : ℕ) → (a ^ j) ^ k ≡ a ^ (k * j)
pow_pow a j zero = pow-zero (a ^ j) ∙ sym (ap (λ (x : ℕ). a ^ x) (zero-mul j) ∙ pow-zero a)
pow_pow a j (suc k) = rw (pow-succ' (a ^ j) k, pow_pow a j k, suc-mul k j, pow-add a (k * j) j) (mul_comm (a ^ j) (a ^ (k * j)))

-- Where a power leaves 1, so does every power of it.
pub pow_leaves_one : (b j k m : ℕ) → b ^ j % m ≡ 1 % m → b ^ (k * j) % m ≡ 1 % m
pow_leaves_one b j k m h = rw (← pow_pow b j k, ← pow-mod (b ^ j) k m, h, pow-mod 1 k m, one_pow k)

-- ---- one halving

-- The square of the half's power is the power of an even exponent.
pub power_even : (m b e : ℕ) {h s : ℕ} → h ≡ b ^ (e / 2) % m → s ≡ h * h % m → e % 2 ≡ 0 → s ≡ b ^ e % m
power_even m b e {h} {s} eh es even =
    es ∙ ap (λ (x : ℕ). x * x % m) eh ∙ sym (mul-mod (b ^ (e / 2)) (b ^ (e / 2)) m) ∙ ap (λ (x : ℕ). x % m) (sym (pow-add b (e / 2) (e / 2)))
    ∙ ap (λ (x : ℕ). b ^ x % m) (omega arith)

-- Once more times the base, it is the power of an odd one.
pub power_odd : (m b e : ℕ) {h s r : ℕ} → h ≡ b ^ (e / 2) % m → s ≡ h * h % m → r ≡ s * b % m → (e % 2 ≡ 0 → ⊥) → r ≡ b ^ e % m
power_odd m b e {h} {s} {r} eh es er odd =
    er ∙ ap (λ (x : ℕ). x * b % m) (es ∙ ap (λ (x : ℕ). x * x % m) eh ∙ sym (mul-mod (b ^ (e / 2)) (b ^ (e / 2)) m)) ∙ mul-mod_first (b ^ (e / 2) * b ^ (e / 2)) b m
    ∙ ap (λ (x : ℕ). x * b % m) (sym (pow-add b (e / 2) (e / 2))) ∙ ap (λ (x : ℕ). x % m) (sym (pow-suc b (e / 2 + e / 2)))
    ∙ ap (λ (x : ℕ). b ^ x % m) (omega arith)

-- ---- the whole power

within : (m b k e : ℕ) → e ≤ k → power_within m b k e ≡ b ^ e % m
unfolding power_within
within m b zero e l = ap (λ (x : ℕ). x % m) (sym (ap (λ (x : ℕ). b ^ x) none ∙ pow-zero b))
  where
    none : e ≡ 0
    none = omega arith
within m b (suc k) zero l = ap (λ (x : ℕ). x % m) (sym (pow-zero b))
within m b (suc k) (suc zero) l = ap (λ (x : ℕ). x % m) (sym (pow_one b))
within m b (suc k) (suc (suc n)) l = by_parity (eqb (suc (suc n) % 2) 0) refl (within m b k (suc (suc n) / 2) (half_le l))
  where
    h : ℕ
    h = power_within m b k (suc (suc n) / 2)

    by_parity : (even : Bool) → eqb (suc (suc n) % 2) 0 ≡ even → h ≡ b ^ (suc (suc n) / 2) % m
        → cond even (h * h % m) ((h * h % m) * b % m) ≡ b ^ suc (suc n) % m
    by_parity true t e = power_even m b (suc (suc n)) e refl (eqb-true _ 0 t)
    by_parity false t e = power_odd m b (suc (suc n)) e refl refl (eqb-false _ 0 t)

-- The power that computes is the power.
pub power_mod_lem : (m b e : ℕ) → power_mod m b e ≡ b ^ e % m
unfolding power_mod
power_mod_lem m b e = within m b e e (le_refl e)

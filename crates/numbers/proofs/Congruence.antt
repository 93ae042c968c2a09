-- Congruence: two numbers are congruent modulo m where `%` leaves the same of both. Laws for any modulus; those for a prime are in Euclid.
-- A difference is written as a sum: the negative of b is m - b % m.
-- Assumes nothing.
use Prim.Native.Nat.{ℕ, suc, ◌+◌, ◌-◌, ◌*◌, ◌%◌, ◌/◌, ◌<◌, ◌≤◌, ◌∣◌}
use mathlib.Core.Path.{◌≡◌, sym, ◌∙◌, ap, ap₂, subst}
use native.Mathlib.Nat.{mod-add-div, add-mul-mod_self_left, add-mod, mod-lt, mod-add-mod, mul-sub, dvd-mul_right, mul-div_cancel'}
use native.Mathlib.Decide.{dec_le}
use native.Mathlib.Omega.{arith}
use Rattle.std.proofs.lemmas.Nat.{mul-mod}

-- ---- congruence and divisibility

-- Congruent numbers differ by a multiple of the modulus.
pub divides_difference : (x y m : ℕ) → x % m ≡ y % m → m ∣ x - y
divides_difference x y m e = subst (λ (z : ℕ). m ∣ z) (sym difference) (dvd-mul_right m (x / m - y / m))
  where
    difference : x - y ≡ m * (x / m - y / m)
    difference = omega (arith, mul-sub m (x / m) (y / m), mod-add-div x m, mod-add-div y m)

-- Numbers that differ by a multiple of the modulus are congruent.
pub congruent_of_divides : (x y m : ℕ) → y ≤ x → m ∣ x - y → x % m ≡ y % m
congruent_of_divides x y m l h = ap (λ (z : ℕ). z % m) sum ∙ add-mul-mod_self_left y m ((x - y) / m)
  where
    sum : x ≡ y + m * ((x - y) / m)
    sum = omega (arith, mul-div_cancel' m h)

-- A congruence may be shown with the greater number first.
pub greater_first : (m a b : ℕ) → (b ≤ a → a % m ≡ b % m) → (a ≤ b → b % m ≡ a % m) → a % m ≡ b % m
greater_first m a b f g = pick (dec_le b a)
  where
    pick : Dec (b ≤ a) → a % m ≡ b % m
    pick (yes l) = f l
    pick (no l) = sym (g (omega arith))

-- ---- sums, products and differences of congruent numbers

module _ (m : ℕ) where
  -- Sums of congruent numbers are congruent.
  pub add_congruent : (a a' b b' : ℕ) → a % m ≡ a' % m → b % m ≡ b' % m → (a + b) % m ≡ (a' + b') % m
  add_congruent a a' b b' x y = add-mod a b m ∙ ap₂ (λ (u v : ℕ). (u + v) % m) x y ∙ sym (add-mod a' b' m)

  -- Products of congruent numbers are congruent.
  pub mul_congruent : (a a' b b' : ℕ) → a % m ≡ a' % m → b % m ≡ b' % m → (a * b) % m ≡ (a' * b') % m
  mul_congruent a a' b b' x y = mul-mod a b m ∙ ap₂ (λ (u v : ℕ). (u * v) % m) x y ∙ sym (mul-mod a' b' m)

  -- What is added on both sides may be left out.
  pub cancel_add : (d a b : ℕ) → (d + a) % m ≡ (d + b) % m → a % m ≡ b % m
  cancel_add d a b e = greater_first m a b (λ l. half a b l e) (λ l. half b a l (sym e))
    where
      half : (a b : ℕ) → b ≤ a → (d + a) % m ≡ (d + b) % m → a % m ≡ b % m
      half a b l e = congruent_of_divides a b m l (subst (λ (x : ℕ). m ∣ x) (omega arith) (divides_difference (d + a) (d + b) m e))

  -- What was taken off and is put back again changes nothing.
  pub subtract_then_add : 0 < m → (a b : ℕ) → ((a + (m - b % m)) % m + b) % m ≡ a % m
  subtract_then_add l a b =
      mod-add-mod (a + (m - b % m)) m b ∙ ap (λ (x : ℕ). x % m) (whole (b % m) (b / m) (mod-lt b l) (mod-add-div b m)) ∙ add-mul-mod_self_left a m (suc (b / m))
    where
      whole : (r q : ℕ) → r < m → r + m * q ≡ b → (a + (m - r)) + b ≡ a + m * suc q
      whole r q u e = omega arith

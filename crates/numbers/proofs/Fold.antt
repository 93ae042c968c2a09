-- Folding modulo p = 2^k - c: it keeps what p leaves of a number, and how small the number is after each fold.
-- Assumes nothing.
use Prim.Native.Nat.{ℕ, ◌+◌, ◌*◌, ◌/◌, ◌%◌, ◌^◌, ◌<◌, ◌≤◌}
use mathlib.Core.Path.{◌≡◌, ap, sym, ◌∙◌}
use native.Mathlib.Nat.{add-mul-mod_self_left, div-add-mod', mod-lt, div-lt_iff_lt-mul, mul-le-mul}
use native.Mathlib.Omega.{arith}
use lib.Pow.{pow_pos}
use Rattle.numbers.specs.Fold.{fold}

module _ (p k c : ℕ) (form : p + c ≡ 2 ^ k) where
  -- Modulo p, the part from 2^k on counts c times.
  pub upper_counts : (high low : ℕ) → (high * c + low) % p ≡ (high * 2 ^ k + low) % p
  upper_counts high low = sym (ap (λ (n : ℕ). n % p) split ∙ add-mul-mod_self_left (high * c + low) p high)
    where
      split : high * 2 ^ k + low ≡ high * c + low + p * high
      split = omega (arith, ap (λ (n : ℕ). high * n) form)

  -- So a number folded leaves what it left.
  pub fold_keeps : (n : ℕ) → fold k c n % p ≡ n % p
  fold_keeps n = upper_counts (n / 2 ^ k) (n % 2 ^ k) ∙ ap (λ (m : ℕ). m % p) (div-add-mod' n (2 ^ k))

  -- Folded again, it still does.
  pub twice_keeps : (n : ℕ) {once twice : ℕ} → once ≡ fold k c n → twice ≡ fold k c once → twice % p ≡ n % p
  twice_keeps n {once} {twice} e f = ap (λ (m : ℕ). m % p) f ∙ fold_keeps once ∙ ap (λ (m : ℕ). m % p) e ∙ fold_keeps n

  -- With at most q in its upper part, a number is folded to less than q · c + 2^k.
  folded_below : (n q : ℕ) → n / 2 ^ k ≤ q → fold k c n < q * c + 2 ^ k
  folded_below n q l = omega (arith, mul-le-mul {n₁ = n / 2 ^ k} {m₁ = c} {n₂ = q} {m₂ = c} l (omega arith), mod-lt n (pow_pos k))

  -- The upper part of a number below b · 2^k is below b.
  upper_below : (n b : ℕ) → n < b * 2 ^ k → n / 2 ^ k < b
  upper_below n b l = (div-lt_iff_lt-mul (pow_pos k)).1 l

  -- After one fold, a number of k + k bits is below (c + 1) · 2^k.
  pub once_below : (n : ℕ) → n < 2 ^ k * 2 ^ k → fold k c n < (c + 1) * 2 ^ k
  once_below n l = omega (arith, folded_below n (2 ^ k) (omega (arith, upper_below n (2 ^ k) l)))

  -- After the second, it is below 2^k + c · c.
  pub twice_below : (n : ℕ) → n < (c + 1) * 2 ^ k → fold k c n < 2 ^ k + c * c
  twice_below n l = omega (arith, folded_below n c (omega (arith, upper_below n (c + 1) l)))

  -- So a number of k + k bits is folded twice to less than 2^k + c · c.
  pub twice_small : (n : ℕ) {once twice : ℕ} → n < 2 ^ k * 2 ^ k → once ≡ fold k c n → twice ≡ fold k c once → twice < 2 ^ k + c * c
  twice_small n {once} {twice} l e f = omega (arith, f, twice_below once (omega (arith, e, once_below n l)))

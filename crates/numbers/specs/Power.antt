-- Powers modulo a number, by halving the exponent, so that they compute at full size.
-- Assumes nothing.
use Rattle.std.specs.Prelude.{ℕ, zero, suc, ◌*◌, ◌/◌, ◌%◌, cond, eqb}

-- The power with at most k halvings of the exponent: 1 for the exponent 0, the base for 1; otherwise the power of half the exponent is squared,
-- and multiplied once more by the base where the exponent is odd.
unfoldable pub power_within : ℕ → ℕ → ℕ → ℕ → ℕ
power_within m b zero e = 1 % m
power_within m b (suc k) zero = 1 % m
power_within m b (suc k) (suc zero) = b % m
power_within m b (suc k) (suc (suc n)) =
    let h = power_within m b k (suc (suc n) / 2) in
    let square = h * h % m in
    cond (eqb (suc (suc n) % 2) 0) square (square * b % m)

-- The power of b to the exponent e modulo m; e halvings are always enough.
unfoldable pub power_mod : ℕ → ℕ → ℕ → ℕ
unfolding power_within
power_mod m b e = power_within m b e e

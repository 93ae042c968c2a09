-- Folding, which takes the place of a division where the modulus is a little below a power of two.
-- Assumes nothing.
use Rattle.std.specs.Prelude.{ℕ, ◌+◌, ◌*◌, ◌/◌, ◌%◌, ◌^◌}

-- A number folded at 2^k: c times its part from there on, and its part below.
abbrev pub fold : ℕ → ℕ → ℕ → ℕ
fold k c n = n / 2 ^ k * c + n % 2 ^ k

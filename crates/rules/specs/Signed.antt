-- A count read as a signed number of thirty-two bits.
-- Assumes nothing.
use Rattle.std.specs.Prelude.{ℕ, suc, cond, ltb, ℤ, pos, negsuc}
use Rattle.std.proofs.Math.IntN.{sub_ℕ}
use Rattle.rules.specs.Kind.{counts, half_counts}

-- A count below 2147483648 is read as itself, any other as the count less 4294967296.
unfoldable pub signed_count : ℕ → ℤ
signed_count n = cond (ltb n half_counts) (pos n) (sub_ℕ n counts)

-- How many a number is below zero: the size of a negative one, 0 for any other.
abbrev pub below_zero : ℤ → ℕ
below_zero (pos n) = 0
below_zero (negsuc n) = suc n

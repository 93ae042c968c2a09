-- The power sums of a list of numbers.
-- Assumes nothing.
use Rattle.std.specs.Prelude.{ℕ, ◌+◌, ◌^◌, List, [], ◌∷◌}

-- The sum of the k-th powers of the members.
abbrev pub power_sum : List ℕ → ℕ → ℕ
power_sum [] k = 0
power_sum (r ∷ rs) k = r ^ k + power_sum rs k

-- What the test for no coefficient says of how many there are.
-- Assumes nothing.
use Rattle.std.proofs.Common.{ℕ, ◌≡◌, ◌<◌, ◌==◌, Bool, true, false, arith}

-- It holds: there is none.
pub none : (n : ℕ) {b : Bool} → b ≡ n == 0 → b ≡ true → n ≡ 0
none n e t = grind (arith, e, t)

-- It does not: there is one or more.
pub some : (n : ℕ) {b : Bool} → b ≡ n == 0 → b ≡ false → 0 < n
some n e t = grind (arith, e, t)

-- The test of a whole table, which the checker computes.
-- Assumes nothing.
use Rattle.std.specs.Prelude.{ℕ, suc, Bool, true, ◌&&◌, List, [], ◌∷◌}

-- The test passes at each entry, told the entry and its place, places counted from k.
unfoldable pub every : {A : Type 0} → (ℕ → A → Bool) → ℕ → List A → Bool
every f k [] = true
every f k (x ∷ xs) = f k x && every f (suc k) xs

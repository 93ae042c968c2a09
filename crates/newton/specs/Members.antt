-- The members of a list of numbers: how large they are, and how often one occurs.
-- Assumes nothing.
use Rattle.std.specs.Prelude.{ℕ, ◌+◌, ◌<◌, Bool, true, false, List, [], ◌∷◌, eqb}

-- Every member is below p.
abbrev pub AllBelow : ℕ → List ℕ → Type 0
AllBelow p [] = Unit {0}
AllBelow p (r ∷ rs) = (r < p) × AllBelow p rs

-- What a test adds to a count: 1 where it is true.
abbrev pub tick : Bool → ℕ
tick true = 1
tick false = 0

-- How many copies of x a list has.
abbrev pub count : ℕ → List ℕ → ℕ
count x [] = 0
count x (r ∷ rs) = tick (eqb x r) + count x rs

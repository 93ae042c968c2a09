-- What the loops over sums, codes and numbers make of them, for the contracts of each width's cores. Definitions only.
-- Assumes nothing.
use Rattle.std.specs.Prelude.{ℕ, ◌^◌, max, min, Bool, cond, List, [], ◌∷◌, ◌++◌, ltb, eqb, length, get_or, set, take, drop}
use Rattle.numbers.specs.Table.{every}
use Rattle.rules.specs.Kind.{Kind}
use Rattle.rules.specs.Field.{plus, minus, negative}
use Rattle.rules.specs.Sketch.{each}
use Rattle.rules.specs.Decode.{evaluate, keep}

-- The greatest number of a list, 0 for none.
unfoldable pub greatest : List ℕ → ℕ
greatest [] = 0
greatest (n ∷ l) = max n (greatest l)

-- Whether every number is below the prime.
abbrev pub all_below : Kind → List ℕ → Bool
all_below K l = every (λ (k n : ℕ). ltb n K.modulus) 0 l

-- How many numbers two lists both have.
abbrev pub common : List ℕ → List ℕ → ℕ
common a b = min (length a) (length b)

-- The first numbers of a list, as many as both have, over the front of another.
abbrev pub copied : List ℕ → List ℕ → List ℕ
copied to from = take (common to from) from ++ drop (common to from) to

-- ---- sums changed

-- A number y, or its negative where sums go down.
abbrev pub signed : Kind → Bool → ℕ → ℕ
signed K down y = cond down (negative K y) y

-- A sum up by y, or down by it.
abbrev pub moved : Kind → Bool → ℕ → ℕ → ℕ
moved K down s y = cond down (minus K s y) (plus K s y)

-- Each sum up or down by its power of x: sum k, counted from 1, by x^k.
abbrev pub moved_by_powers : Kind → Bool → ℕ → List ℕ → List ℕ
moved_by_powers K down x sums = each (λ (k s : ℕ). moved K down s (x ^ k)) 1 sums

-- The sum at place k, counted from 0, up by y.
unfoldable pub raised_at : Kind → List ℕ → ℕ → ℕ → List ℕ
raised_at K l k y = set l k (plus K (get_or l k 0) y)

-- Each sum that both lists have less the other's.
abbrev pub differences : Kind → List ℕ → List ℕ → List ℕ
differences K l o = each (λ (k s : ℕ). minus K s (get_or o k 0)) 0 (take (common l o) l)

-- ---- a log and its values

-- The entries of a log at which the value of the coefficients is 0.
abbrev pub roots : Kind → List ℕ → List ℕ → List ℕ
roots K cs log = keep (λ (c : ℕ). eqb (evaluate K cs c) 0) log

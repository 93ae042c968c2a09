-- A change of each number of a list, told its place: its length, its numbers, their size, and its parts. And tests of every number.
-- Assumes nothing.
use Prim.Native.Nat.{ℕ, zero, suc, ◌+◌, ◌<◌}
use mathlib.Core.Path.{◌≡◌, refl, sym, ◌∙◌, ap, ap₂}
use mathlib.Core.Bool.{Bool, true, false, ◌&&◌, false≢true}
use mathlib.Core.List.{List, [], ◌∷◌, ◌++◌}
use native.Mathlib.Omega.{arith}
use lib.Dec.{ltb}
use lib.ListN.{length, get_or, take, drop, replicate}
use borrow.Author.Tests.{ltb-true, lt-ltb}
use Rattle.numbers.specs.Table.{every}
use Rattle.newton.specs.Members.{AllBelow}
use Rattle.rules.specs.Sketch.{each}

-- ---- each number changed

module _ (f : ℕ → ℕ → ℕ) where
  -- The length stays.
  pub each_length : (k : ℕ) (ss : List ℕ) → length (each f k ss) ≡ length ss
  unfolding each
  each_length k [] = refl
  each_length k (s ∷ ss) = ap suc (each_length (suc k) ss)

  -- Number j is changed at the place k + j.
  pub each_at : (k : ℕ) (ss : List ℕ) (j : ℕ) → j < length ss → get_or (each f k ss) j 0 ≡ f (k + j) (get_or ss j 0)
  unfolding each
  each_at k [] j l = absurd (omega arith)
  each_at k (s ∷ ss) zero l = ap (λ (i : ℕ). f i s) (omega arith)
  each_at k (s ∷ ss) (suc j) l = each_at (suc k) ss j (omega arith) ∙ ap (λ (i : ℕ). f i (get_or ss j 0)) (omega arith)

  -- Every number is below p where the change gives only such.
  pub each_below : (p : ℕ) → ((k s : ℕ) → f k s < p) → (k : ℕ) (ss : List ℕ) → AllBelow p (each f k ss)
  unfolding each
  each_below p small k [] = tt
  each_below p small k (s ∷ ss) = (small k s, each_below p small (suc k) ss)

  -- The first n numbers are those of the first n.
  pub each_take : (n k : ℕ) (ss : List ℕ) → take n (each f k ss) ≡ each f k (take n ss)
  unfolding each
  each_take zero k ss = refl
  each_take (suc n) k [] = refl
  each_take (suc n) k (s ∷ ss) = ap (λ (l : List ℕ). f k s ∷ l) (each_take n (suc k) ss)

-- Two changes are equal where they agree at every place.
pub each_same : (f g : ℕ → ℕ → ℕ) (k : ℕ) (ss ts : List ℕ) → length ss ≡ length ts
    → ((j : ℕ) → j < length ss → f (k + j) (get_or ss j 0) ≡ g (k + j) (get_or ts j 0)) → each f k ss ≡ each g k ts
unfolding each
each_same f g k [] [] e same = refl
each_same f g k [] (t ∷ ts) e same = absurd (omega arith)
each_same f g k (s ∷ ss) [] e same = absurd (omega arith)
each_same f g k (s ∷ ss) (t ∷ ts) e same =
    ap₂ (λ (x : ℕ) (xs : List ℕ). x ∷ xs) (ap (λ (i : ℕ). f i s) here ∙ same 0 (omega arith) ∙ ap (λ (i : ℕ). g i t) (sym here))
    (each_same f g (suc k) ss ts (omega arith) (λ j l. ap (λ (i : ℕ). f i (get_or ss j 0)) (later j) ∙ same (suc j) (omega arith)
    ∙ ap (λ (i : ℕ). g i (get_or ts j 0)) (sym (later j))))
  where
    here : k ≡ k + 0
    here = omega arith

    later : (j : ℕ) → suc k + j ≡ k + suc j
    later j = omega arith

-- A change of each number to 0 leaves as many zeros.
pub each_cleared : (k : ℕ) (ss : List ℕ) → each (λ (j s : ℕ). 0) k ss ≡ replicate (length ss) 0
unfolding each
each_cleared k [] = refl
each_cleared k (s ∷ ss) = ap (λ (t : List ℕ). 0 ∷ t) (each_cleared (suc k) ss)

-- ---- two tests at once

-- The first of two tests passes where both do.
pub and_first : (a b : Bool) → a && b ≡ true → a ≡ true
and_first true b e = refl
and_first false b e = e

-- So does the second.
pub and_second : (a b : Bool) → a && b ≡ true → b ≡ true
and_second true b e = e
and_second false b e = absurd (false≢true e)

-- ---- the size of every number

module _ (p : ℕ) where
  -- Zeros are below whatever is above 0.
  pub zeros_below : 0 < p → (n : ℕ) → AllBelow p (replicate n 0)
  zeros_below l zero = tt
  zeros_below l (suc n) = (l, zeros_below l n)

  -- The first numbers of a list stay below p.
  pub take_below : (n : ℕ) (ss : List ℕ) → AllBelow p ss → AllBelow p (take n ss)
  take_below zero ss below = tt
  take_below (suc n) [] below = tt
  take_below (suc n) (s ∷ ss) below = (below.0, take_below n ss below.1)

  -- So do the numbers after them.
  pub drop_below : (n : ℕ) (ss : List ℕ) → AllBelow p ss → AllBelow p (drop n ss)
  drop_below zero ss below = below
  drop_below (suc n) [] below = tt
  drop_below (suc n) (s ∷ ss) below = drop_below n ss below.1

  -- So do two lists one behind the other.
  pub append_below : (ss ts : List ℕ) → AllBelow p ss → AllBelow p ts → AllBelow p (ss ++ ts)
  append_below [] ts below also = also
  append_below (s ∷ ss) ts below also = (below.0, append_below ss ts below.1 also)

  -- A number of the list is below p.
  pub at_below : (ss : List ℕ) → AllBelow p ss → (j : ℕ) → j < length ss → get_or ss j 0 < p
  at_below [] below j l = absurd (omega arith)
  at_below (s ∷ ss) below zero l = below.0
  at_below (s ∷ ss) below (suc j) l = at_below ss below.1 j (omega arith)

  -- A list whose numbers are all below p passes the test of that.
  pub below_every : (k : ℕ) (ss : List ℕ) → AllBelow p ss → every (λ (k s : ℕ). ltb s p) k ss ≡ true
  unfolding every
  below_every k [] below = refl
  below_every k (s ∷ ss) below = rw (lt-ltb s p below.0) (below_every (suc k) ss below.1)

  -- A list that passes the test has every number below p.
  pub every_below : (k : ℕ) (ss : List ℕ) → every (λ (k s : ℕ). ltb s p) k ss ≡ true → AllBelow p ss
  unfolding every
  every_below k [] t = tt
  every_below k (s ∷ ss) t = (ltb-true s p (and_first (ltb s p) _ t), every_below (suc k) ss (and_second (ltb s p) _ t))

-- A table's rule: one test that the checker computes over the whole table holds at each entry.
-- Assumes nothing.
use Prim.Native.Nat.{ℕ, zero, suc, ◌+◌, ◌<◌}
use mathlib.Core.Path.{◌∙◌, sym, subst}
use mathlib.Core.Bool.{Bool, true, false, ◌&&◌}
use mathlib.Core.List.{List, [], ◌∷◌}
use native.Mathlib.Nat.{add-zero, zero-add, add-suc, suc-add, le_of_suc-le-suc, not-suc-le-zero}
use lib.Dec.{T}
use lib.ListN.{length, get_or}
use Rattle.numbers.specs.Table.{every}

-- Where both of two tests pass, the first does.
pub both_first : (a b : Bool) → T (a && b) → T a
both_first true b t = tt
both_first false b t = t

-- Where both of two tests pass, the second does.
pub both_second : (a b : Bool) → T (a && b) → T b
both_second true b t = t
both_second false b t = absurd t

module _ {A : Type 0} (f : ℕ → A → Bool) (d : A) where
  from : (k : ℕ) (xs : List A) → T (every f k xs) → (i : ℕ) → i < length xs → T (f (k + i) (get_or xs i d))
  unfolding every
  from k [] t i l = absurd (not-suc-le-zero l)
  from k (x ∷ xs) t zero l = subst (λ (j : ℕ). T (f j x)) (sym (add-zero k)) (both_first (f k x) (every f (suc k) xs) t)
  from k (x ∷ xs) t (suc i) l =
      subst (λ (j : ℕ). T (f j (get_or xs i d))) (suc-add k i ∙ sym (add-suc k i))
      (from (suc k) xs (both_second (f k x) (every f (suc k) xs) t) i (le_of_suc-le-suc l))

  -- What is tested of the whole table holds of entry i.
  pub at_entry : (xs : List A) → T (every f 0 xs) → (i : ℕ) → i < length xs → T (f i (get_or xs i d))
  at_entry xs t i l = subst (λ (j : ℕ). T (f j (get_or xs i d))) (zero-add i) (from 0 xs t i l)

-- The history of an input's codes: what is put in and taken out, how many, and by which threshold.
-- Assumes nothing.
use Prim.Native.Nat.{ℕ, ◌+◌, ◌-◌, ◌≤◌}
use mathlib.Core.Path.{◌≡◌, refl, sym, ap, ◌∙◌}
use mathlib.Core.Bool.{Bool, true, false}
use mathlib.Core.List.{List, [], ◌∷◌, map, append-nil}
use native.Mathlib.Omega.{arith}
use lib.Dec.{ltb}
use lib.ListN.{length, length-append, length-map}
use borrow.Author.Tests.{lt-ltb, le-ltb, ltb-true, ltb-false}
use Rattle.newton.specs.Members.{count}
use Rattle.newton.proofs.Permutation.{remainder, length_permuted}
use Rattle.rules.specs.Kind.{Kind}
use Rattle.rules.specs.Field.{residue}
use Rattle.rules.specs.Sketch as sketch
use Rattle.rules.specs.History.{History, fresh, insert, sketch_of, Allowed, put_in, taken_out}
use Rattle.desk_rules.specs.Castle.{times_in}
use Rattle.desk_rules.proofs.Missing.{inserted, lacking}

-- ---- the history of the codes

module _ (K : Kind) where
  -- Insertions put in each residue as often as their codes have it.
  put_times : (r : ℕ) (h : History) (l : List ℕ) → count r (put_in K (inserted h l)) ≡ times_in K r l + count r (put_in K h)
  put_times r h [] = omega arith
  put_times r h (c ∷ l) = omega (arith, put_times r (insert h c) l)

  -- Insertions put in as many as they are.
  put_length : (h : History) (l : List ℕ) → length (put_in K (inserted h l)) ≡ length l + length (put_in K h)
  put_length h [] = omega arith
  put_length h (c ∷ l) = omega (arith, put_length (insert h c) l)

  -- Insertions take nothing out.
  taken_still : (h : History) (l : List ℕ) → taken_out K (inserted h l) ≡ taken_out K h
  taken_still h [] = refl
  taken_still h (c ∷ l) = taken_still (insert h c) l

  -- No insertion is refused.
  allowed_still : (h : History) (l : List ℕ) → Allowed K h → Allowed K (inserted h l)
  allowed_still h [] a = a
  allowed_still h (c ∷ l) a = allowed_still (insert h c) l a

  -- Insertions keep the threshold.
  threshold_still : (h : History) (l : List ℕ) → (sketch_of K (inserted h l)).threshold ≡ (sketch_of K h).threshold
  unfolding sketch.insert
  threshold_still h [] = refl
  threshold_still h (c ∷ l) = threshold_still (insert h c) l

module _ (K : Kind) (T : ℕ) (l g : List ℕ) where
  -- What is put in is what the log codes put in.
  put_in_lem : put_in K (lacking T l g) ≡ put_in K (inserted (fresh T) l)
  put_in_lem = rw (taken_still K (fresh T) g, append-nil)

  -- What is taken out is what the got codes put into the sketch subtracted.
  taken_out_lem : taken_out K (lacking T l g) ≡ put_in K (inserted (fresh T) g)
  taken_out_lem = rw (taken_still K (fresh T) l)

  -- A residue is put in as often as it is logged.
  pub times_put : (r : ℕ) → count r (put_in K (lacking T l g)) ≡ times_in K r l
  times_put r = ap (count r) put_in_lem ∙ put_times K r (fresh T) l ∙ omega arith

  -- A residue is taken out as often as it is got.
  pub times_taken : (r : ℕ) → count r (taken_out K (lacking T l g)) ≡ times_in K r g
  times_taken r = ap (count r) taken_out_lem ∙ put_times K r (fresh T) g ∙ omega arith

  -- As many are put in as the log has entries.
  pub length_put : length (put_in K (lacking T l g)) ≡ length l
  length_put = ap length put_in_lem ∙ put_length K (fresh T) l ∙ omega arith

  -- As many are taken out as are got.
  pub length_taken : length (taken_out K (lacking T l g)) ≡ length g
  length_taken = ap length taken_out_lem ∙ put_length K (fresh T) g ∙ omega arith

  -- The subtraction is of two sketches of the threshold T.
  same_threshold : (sketch_of K (inserted (fresh T) l)).threshold ≡ (sketch_of K (inserted (fresh T) g)).threshold
  same_threshold = threshold_still K (fresh T) l ∙ sym (threshold_still K (fresh T) g)

  -- No call of the history is refused, where T is in range.
  pub lacking_allowed : 1 ≤ T → T ≤ K.greatest → Allowed K (lacking T l g)
  lacking_allowed least most = (allowed_still K (fresh T) l (least, most), allowed_still K (fresh T) g (least, most), same_threshold)

  -- It keeps the threshold T.
  pub lacking_threshold : (sketch_of K (lacking T l g)).threshold ≡ T
  unfolding sketch.subtract sketch.fresh
  lacking_threshold = omega (arith, threshold_still K (fresh T) l, threshold_still K (fresh T) g)

-- Codes that have no residue oftener than others have it are no more than those.
pub no_more : (K : Kind) (few many : List ℕ) → ((r : ℕ) → times_in K r few ≤ times_in K r many) → length few ≤ length many
no_more K few many h =
    let rest = remainder (map (residue K) many) (map (residue K) few) h in
    omega (arith, length_permuted rest.1, length-append (map (residue K) few) rest.0, length-map many (residue K), length-map few (residue K))

-- A difference is above zero where the first number is the greater.
pub above_zero : (a b : ℕ) → ltb 0 (a - b) ≡ ltb b a
above_zero a b = by_test (ltb b a) refl
  where
    by_test : (greater : Bool) → ltb b a ≡ greater → ltb 0 (a - b) ≡ greater
    by_test true e = lt-ltb 0 (a - b) (omega (arith, ltb-true b a e))
    by_test false e = le-ltb 0 (a - b) (omega (arith, ltb-false b a e))

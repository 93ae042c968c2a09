-- The promise for the desk program: where the got codes leave no more of the log than the threshold, the missing lines are exact; and where they exceed it by
-- no more than the threshold, the surplus lines are.
-- Assumes nothing.
use Prim.Native.Nat.{ℕ, suc}
use mathlib.Core.Path.{◌≡◌, refl}
use mathlib.Core.List.{List, [], ◌∷◌, foldl}
use native.Mathlib.Omega.{arith}
use lib.Dec.{ltb}
use lib.IntN.{pos, negsuc}
use lib.ListN.{length}
use Rattle.rules.specs.Kind.{Kind}
use Rattle.rules.specs.Field.{residue}
use Rattle.rules.specs.Signed.{signed_count}
use Rattle.rules.specs.Sketch as sketch
use Rattle.rules.specs.Sketch.{Sketch, subtract}
use Rattle.rules.specs.Decode.{keep}
use Rattle.rules.specs.Calls.{given}
use Rattle.rules.specs.History.{History, fresh, insert, sub_assign, sketch_of, net, Leaves, excess, Exceeds}
use Rattle.desk_rules.specs.Desk.{logs, gots, sketch_of_codes, Report, decided, outcome}
use Rattle.rules.proofs.Negation.{signed_itself}
use Rattle.rules.proofs.Promise.{well_formed_lem, count_exact, decode_exact}
use Rattle.rules.proofs.Surplus.{signed_exact, surplus_exact}

-- The history of an input: the codes of its log lines are put in, and the sketch of its got lines is subtracted.
abbrev pub inserted : History → List ℕ → History
inserted = foldl insert

-- The history with the log codes l put into threshold T, and the sketch of the got codes g subtracted.
abbrev pub lacking : ℕ → List ℕ → List ℕ → History
lacking T l g = sub_assign (inserted (fresh T) l) (inserted (fresh T) g)

module _ (K : Kind) where
  -- The sketch of a history with codes put in is the sketch with these codes inserted.
  inserted_sketch : (h : History) (l : List ℕ) (s : Sketch) → sketch_of K h ≡ s → sketch_of K (inserted h l) ≡ foldl (sketch.insert K) s l
  inserted_sketch h [] s e = e
  inserted_sketch h (c ∷ l) s e = inserted_sketch (insert h c) l _ (rw e)

  -- Its sketch is that of the log codes less that of the got codes.
  pub lacking_sketch_lem : (T : ℕ) (l g : List ℕ) → sketch_of K (lacking T l g) ≡ subtract K (sketch_of_codes K T l) (sketch_of_codes K T g)
  lacking_sketch_lem T l g = rw (inserted_sketch (fresh T) l _ refl, inserted_sketch (fresh T) g _ refl)

  -- What is told: the log entries whose residue has a net number above zero, as they stand in the log, in its order, repeats kept.
  abbrev pub exact : ℕ → List ℕ → List ℕ → ℕ → Report
  exact T l g n = record { threshold = T; count = pos n; found = keep (λ c. ltb 0 (net K (lacking T l g) (residue K c))) l }

  -- Where the history leaves n, the signed count is n.
  signed_missing : (T : ℕ) (l g : List ℕ) (n : ℕ) → Leaves K (lacking T l g) n → signed_count (sketch_of K (lacking T l g)).count ≡ pos n
  signed_missing T l g n leaves =
      rw (count_exact K (lacking T l g) n leaves)
      (signed_itself n (omega (arith, leaves.enough, (well_formed_lem K (lacking T l g) leaves.allowed).at_most, K.counted)))

  -- There the decision is exact.
  decided_exact : (T : ℕ) (l g : List ℕ) (n : ℕ) → Leaves K (lacking T l g) n
      → decided K T l g (subtract K (sketch_of_codes K T l) (sketch_of_codes K T g)) ≡ given (exact T l g n)
  unfolding decided
  decided_exact T l g n leaves =
      rw (← lacking_sketch_lem T l g, signed_missing T l g n leaves, decode_exact K (lacking T l g) n leaves l (length l) (omega arith))

  -- An input with got lines, and one without.
  pub missing_exact : (T : ℕ) (l g : List ℕ) (n : ℕ) → Leaves K (lacking T l g) n → outcome K (gots T l g) ≡ given (exact T l g n)
  unfolding outcome
  missing_exact = decided_exact

  -- Without got lines the missing lines are exact too, where the log leaves no more than the threshold.
  pub all_missing_exact : (T : ℕ) (l : List ℕ) (n : ℕ) → Leaves K (lacking T l []) n → outcome K (logs T l) ≡ given (exact T l [] n)
  unfolding outcome
  all_missing_exact T l = decided_exact T l []

  -- What is told of a surplus: the got codes whose residue has a net number below zero, as they stand, in their order, repeats kept; and the count is
  -- negative.
  abbrev pub exact_surplus : ℕ → List ℕ → List ℕ → ℕ → Report
  exact_surplus T l g k = record { threshold = T; count = negsuc k; found = keep (λ c. ltb 0 (excess K (lacking T l g) (residue K c))) g }

  -- The surplus lines are exact, where the got codes exceed the log by no more than the threshold, and by one or more.
  pub surplus_told : (T : ℕ) (l g : List ℕ) (k : ℕ) → Exceeds K (lacking T l g) (suc k) → outcome K (gots T l g) ≡ given (exact_surplus T l g k)
  unfolding outcome decided
  surplus_told T l g k exceeds =
      rw (
        ← lacking_sketch_lem T l g,
        signed_exact K (lacking T l g) (suc k) exceeds,
        surplus_exact K (lacking T l g) (suc k) exceeds g (length g) (omega arith),
      )

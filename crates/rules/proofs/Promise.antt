-- The promise: whatever has happened to a sketch, decoding lists exactly what is left, and the sums determine it. For every kind.
-- Assumes nothing.
use Prim.Native.Nat.{ℕ, ◌≤◌}
use mathlib.Core.Path.{◌≡◌, refl, sym, ◌∙◌, ap, fun_ext}
use mathlib.Core.Bool.{Bool, true, false, cond}
use mathlib.Core.List.{List, [], ◌∷◌}
use native.Mathlib.Omega.{arith}
use lib.Dec.{eqb, ltb}
use lib.ListN.{length, take}
use borrow.Author.Tests.{eqb-true, le-leb}
use Rattle.newton.proofs.Permutation.{count_permuted}
use Rattle.rules.specs.Kind.{Kind}
use Rattle.rules.specs.Field.{residue}
use Rattle.rules.specs.Sketch.{code, WellFormed}
use Rattle.rules.specs.Decode.{coefficients, evaluate, keep, decode}
use Rattle.rules.specs.Packet.{packet}
use Rattle.rules.specs.Calls as calls
use Rattle.rules.specs.Calls.{given}
use Rattle.rules.specs.History.{History, carried, sketch_of, Allowed, net, Leaves}
use Rattle.rules.proofs.Balance.{well_formed_history}
use Rattle.rules.proofs.Left.{left_net, count_is_left, root_is_net, none_left, left_permuted}
use Rattle.rules.proofs.Packet.{read_back, hint_read_back, write_read_back}

-- Every history that is not refused ends in a well-formed sketch, so no call on it is refused by 12.
pub well_formed_lem : (K : Kind) (h : History) → Allowed K h → WellFormed K (sketch_of K h)
well_formed_lem = well_formed_history

-- The count says how many are left.
pub count_exact : (K : Kind) (h : History) (n : ℕ) → Leaves K h n → (sketch_of K h).count ≡ n
count_exact = count_is_left

-- A test that no number passes keeps none.
pub keep_none : (test : ℕ → Bool) → ((c : ℕ) → test c ≡ false) → (log : List ℕ) → keep test log ≡ []
keep_none test fails [] = refl
keep_none test fails (c ∷ log) = rw (fails c) (keep_none test fails log)

-- Decoding lists exactly the entries whose residue has a net number above zero, as they stand in the log, in its order, repeats kept.
pub decode_lists : (K : Kind) (h : History) (n : ℕ) → Leaves K h n → (log : List ℕ)
    → decode K (sketch_of K h) log ≡ keep (λ c. ltb 0 (net K h (residue K c))) log
unfolding decode
decode_lists K h n leaves log = by_count (eqb (sketch_of K h).count 0) refl
  where
    by_count : (none : Bool) → eqb (sketch_of K h).count 0 ≡ none
        → cond none [] (keep (λ c. eqb (evaluate K (coefficients K (sketch_of K h).sums (sketch_of K h).count) c) 0) log)
        ≡ keep (λ c. ltb 0 (net K h (residue K c))) log
    by_count true e =
        let nothing_left = sym (count_is_left K h n leaves) ∙ eqb-true (sketch_of K h).count 0 e in
        sym (keep_none (λ c. ltb 0 (net K h (residue K c))) (λ c. none_left K h n leaves nothing_left (residue K c)) log)
    by_count false e = ap (λ (test : ℕ → Bool). keep test log) (fun_ext (root_is_net K h n leaves))

-- The call of decoding is not refused where the lent places are enough for the log, and gives that list.
pub decode_exact : (K : Kind) (h : History) (n : ℕ) → Leaves K h n → (log : List ℕ) (places : ℕ) → length log ≤ places
    → calls.decode K true (sketch_of K h) log places ≡ given (keep (λ c. ltb 0 (net K h (residue K c))) log)
unfolding calls.decode
decode_exact K h n leaves log places room =
    rw (
      le-leb (sketch_of K h).count (sketch_of K h).threshold (omega (arith, count_is_left K h n leaves, leaves.enough)),
      le-leb (length log) places room,
      decode_lists K h n leaves log,
    )

-- Two histories that leave equally many, with the same first sums, have the same net numbers.
pub same_net : (K : Kind) (h g : History) (n : ℕ) → Leaves K h n → Leaves K g n → take n (sketch_of K h).sums ≡ take n (sketch_of K g).sums
    → (r : ℕ) → net K h r ≡ net K g r
same_net K h g n leaves others e r =
    sym (left_net K h n leaves r) ∙ count_permuted r (left_permuted K h g n leaves others e) ∙ left_net K g n others r

-- A history is carried on by a packet: written with a last code x and its first m sums, at least one, and read again.
pub carried_on : (K : Kind) (h : History) → Allowed K h → (x : ℕ) → (sketch_of K h).last ≡ code x → (m : ℕ) → 1 ≤ m
    → calls.read K (packet K (sketch_of K h).count x (take m (sketch_of K h).sums)) ≡ given (sketch_of K (carried h m))
carried_on K h a x last m l = read_back K (sketch_of K h) (well_formed_lem K h a) x last m l

-- So it is by whatever the call of writing with a hint of at least 1 gives.
pub carried_on_by_hint : (K : Kind) (h : History) → Allowed K h → (m room : ℕ) (bs : List ℕ) → 1 ≤ m
    → calls.write_with_hint K true (sketch_of K h) m room ≡ given bs → calls.read K bs ≡ given (sketch_of K (carried h m))
carried_on_by_hint K h a m room bs l e = hint_read_back K (sketch_of K h) (well_formed_lem K h a) m room bs l e

-- What the call of writing without a hint gives is read as the history's sketch itself.
pub carried_whole : (K : Kind) (h : History) → Allowed K h → (room : ℕ) (bs : List ℕ) → calls.write K true (sketch_of K h) room ≡ given bs
    → calls.read K bs ≡ given (sketch_of K h)
carried_whole K h a room bs e = write_read_back K (sketch_of K h) (well_formed_lem K h a) room bs e

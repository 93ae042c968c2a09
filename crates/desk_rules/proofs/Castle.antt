-- The desk's promise, from bytes to bytes: where each residue is got at most as often as it is logged, and no more are missing than the threshold, the
-- program's whole output is exact.
-- Assumes nothing.
use Prim.Native.Nat.{ℕ, suc, ◌-◌, ◌≤◌}
use mathlib.Core.Path.{◌≡◌, ap, fun_ext, ◌∙◌}
use mathlib.Core.Bool.{Bool}
use mathlib.Core.List.{List, [], ◌∷◌}
use native.Mathlib.Omega.{arith}
use lib.Dec.{ltb}
use lib.IntN.{pos}
use lib.ListN.{length}
use Rattle.rules.specs.Kind.{Kind}
use Rattle.rules.specs.Field.{residue}
use Rattle.rules.specs.Decode.{keep}
use Rattle.rules.specs.Calls.{given}
use Rattle.rules.specs.History.{net, Leaves}
use Rattle.desk_rules.specs.Desk.{Seen, outcome}
use Rattle.desk_rules.specs.Text.{signed_line, printed, desk_answer}
use Rattle.desk_rules.specs.Castle.{times_in, input_of, Castle, is_missing, missing_of, output_for}
use Rattle.desk_rules.proofs.Missing.{lacking, exact, missing_exact, all_missing_exact}
use Rattle.desk_rules.proofs.Codes.{times_put, times_taken, length_put, length_taken, lacking_allowed, lacking_threshold, no_more, above_zero}
use Rattle.desk_rules.proofs.Reading.{seen_of, read_input}

module _ (K : Kind) (T : ℕ) (l g : List ℕ) (castle : Castle K T l g) where
  -- No more are got than logged.
  fewer_got : length g ≤ length l
  fewer_got = no_more K g l castle.got_of_logged

  -- The history of the codes leaves as many as the two numbers of lines differ by.
  leaves : Leaves K (lacking T l g) (length l - length g)
  leaves = record {
    allowed = lacking_allowed K T l g castle.at_least castle.at_most;
    none_below = λ r. omega (arith, times_put K T l g r, times_taken K T l g r, castle.got_of_logged r);
    in_all = omega (arith, length_put K T l g, length_taken K T l g, fewer_got);
    enough = omega (arith, lacking_threshold K T l g, castle.few_missing);
  }

  -- A net number above zero is a code logged more often than got.
  net_missing : (c : ℕ) → ltb 0 (net K (lacking T l g) (residue K c)) ≡ is_missing K l g c
  net_missing c = rw (times_put K T l g (residue K c), times_taken K T l g (residue K c)) (above_zero (times_in K (residue K c) l) (times_in K (residue K c) g))

  -- So the entries with a net number above zero are those missing.
  listed : keep (λ c. ltb 0 (net K (lacking T l g) (residue K c))) l ≡ missing_of K l g
  listed = ap (λ (test : ℕ → Bool). keep test l) (fun_ext net_missing)

-- Decoding gives the missing entries, with got lines and without.
outcome_exact : (K : Kind) (T : ℕ) (l g : List ℕ) → Castle K T l g → outcome K (seen_of K T l g) ≡ given (exact K T l g (length l - length g))
outcome_exact K T l [] castle = all_missing_exact K T l (length l - 0) (leaves K T l [] castle)
outcome_exact K T l (c ∷ g) castle = missing_exact K T l (c ∷ g) (length l - suc (length g)) (leaves K T l (c ∷ g) castle)

-- The program's whole output for the lines of a threshold T, the log codes l and the got codes g, where each residue is got at most as often as it is logged
-- and at most T are missing: refusal 0, the threshold, how many are missing, and exactly the log's entries that are, in its order, repeats kept.
pub castle_exact : (K : Kind) (T : ℕ) (l g : List ℕ) → Castle K T l g → desk_answer K (input_of T l g) ≡ output_for K T l g
unfolding desk_answer printed signed_line output_for
castle_exact K T l g castle =
    let few = fewer_got K T l g castle in
    let read = read_input K T l g castle.at_least castle.at_most castle.few_lines (omega (arith, castle.few_lines)) castle.log_codes
    castle.got_codes in
    ap (λ (s : Seen). printed (outcome K s)) read ∙ ap printed (outcome_exact K T l g castle)
    ∙ ap (λ (found : List ℕ). printed (given (record { threshold = T; count = pos (length l - length g); found = found }))) (listed K T l g castle)

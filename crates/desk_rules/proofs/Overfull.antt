-- The desk's promise with the roles changed, from bytes to bytes: where each residue is logged at most as often as it is got, and no more are surplus than the
-- threshold, the program's whole output is exact.
-- Assumes nothing.
use Prim.Native.Nat.{ℕ, zero, suc, ◌-◌, ◌<◌}
use mathlib.Core.Path.{◌≡◌, refl, ap, fun_ext, ◌∙◌}
use mathlib.Core.Bool.{Bool}
use mathlib.Core.List.{List, [], ◌∷◌}
use native.Mathlib.Omega.{arith}
use lib.Dec.{ltb}
use lib.IntN.{negsuc}
use lib.ListN.{length}
use Rattle.rules.specs.Kind.{Kind}
use Rattle.rules.specs.Field.{residue}
use Rattle.rules.specs.Decode.{keep}
use Rattle.rules.specs.Calls.{given}
use Rattle.rules.specs.History.{excess, Exceeds}
use Rattle.desk_rules.specs.Desk.{Seen, gots, outcome}
use Rattle.desk_rules.specs.Text.{signed_line, printed, desk_answer}
use Rattle.desk_rules.specs.Castle.{times_in, input_of, Overfull, is_surplus, surplus_of, surplus_output_for}
use Rattle.desk_rules.proofs.Missing.{lacking, surplus_told}
use Rattle.desk_rules.proofs.Codes.{times_put, times_taken, length_put, length_taken, lacking_allowed, lacking_threshold, above_zero}
use Rattle.desk_rules.proofs.Reading.{seen_of, read_input}

module _ (K : Kind) (T : ℕ) (l g : List ℕ) (overfull : Overfull K T l g) where
  -- The history of the codes exceeds by as many as the two numbers of lines differ by.
  exceeds : (n : ℕ) → n ≡ length g - length l → Exceeds K (lacking T l g) n
  exceeds n e = record {
    allowed = lacking_allowed K T l g overfull.at_least overfull.at_most;
    none_above = λ r. omega (arith, times_put K T l g r, times_taken K T l g r, overfull.logged_of_got r);
    in_all = omega (arith, length_put K T l g, length_taken K T l g, overfull.some_surplus);
    few = omega (arith, lacking_threshold K T l g, overfull.few_surplus);
  }

  -- A net number below zero is a code got more often than logged.
  excess_surplus : (c : ℕ) → ltb 0 (excess K (lacking T l g) (residue K c)) ≡ is_surplus K l g c
  excess_surplus c =
      rw (times_put K T l g (residue K c), times_taken K T l g (residue K c)) (above_zero (times_in K (residue K c) g) (times_in K (residue K c) l))

  -- So the got codes with a net number below zero are those surplus.
  listed : keep (λ c. ltb 0 (excess K (lacking T l g) (residue K c))) g ≡ surplus_of K l g
  listed = ap (λ (test : ℕ → Bool). keep test g) (fun_ext excess_surplus)

  -- There are got lines.
  some_got : seen_of K T l g ≡ gots T l g
  some_got = by_list g overfull.some_surplus
    where
      by_list : (g : List ℕ) → length l < length g → seen_of K T l g ≡ gots T l g
      by_list [] more = absurd (omega arith)
      by_list (c ∷ g) more = refl

-- The program's whole output for the lines of a threshold T, the log codes l and the got codes g, where each residue is logged at most as often as it is got,
-- and one or more and at most T are surplus: refusal 0, the threshold, how many are surplus behind a minus sign, and exactly the got codes that are, in their
-- order, repeats kept.
pub overfull_exact : (K : Kind) (T : ℕ) (l g : List ℕ) → Overfull K T l g → desk_answer K (input_of T l g) ≡ surplus_output_for K T l g
unfolding desk_answer printed signed_line surplus_output_for
overfull_exact K T l g overfull = by_number (length g - length l) refl
  where
    read : desk_answer K (input_of T l g) ≡ printed (outcome K (gots T l g))
    read =
        ap (λ (s : Seen). printed (outcome K s))
        (read_input K T l g overfull.at_least overfull.at_most overfull.few_lines overfull.few_gots overfull.log_codes overfull.got_codes
        ∙ some_got K T l g overfull)

    by_number : (n : ℕ) → n ≡ length g - length l → desk_answer K (input_of T l g) ≡ surplus_output_for K T l g
    by_number zero e = absurd (omega (arith, overfull.some_surplus))
    by_number (suc k) e =
        read
        ∙ ap printed (surplus_told K T l g k (exceeds K T l g overfull (suc k) e))
        ∙ ap (λ (found : List ℕ). printed (given (record { threshold = T; count = negsuc k; found = found }))) (listed K T l g overfull)
        ∙ rw e

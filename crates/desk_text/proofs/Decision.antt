-- The laws of the decision at the end of the input: every refusal is one of the table.
-- Assumes nothing.
use Rattle.std.proofs.Common.{arith, ℕ, ◌≡◌, List, length, Bool, leb, eqb, ◌&&◌, true, false, ℤ, pos, negsuc, refl, sym, ap, ◌∙◌, Result, Ok, Err, ◌<ℤ◌, ◌≤ℤ◌}
use Rattle.std.specs.Result.{is_ok, result_unwrap_or}
use Rattle.rules.specs.Kind.{kind32}
use Rattle.rules.specs.Sketch.{Sketch, surplus_in, subtract}
use Rattle.rules.specs.Decode.{decode, surplus}
use Rattle.rules.specs.Calls as calls
use Rattle.rules.specs.Calls.{Outcome, refused, given, unless}
use mathlib.Core.Bool.{true≢false}
use Rattle.lent.specs.declared.refusal.Refusal.{Refusal}
use Rattle.lent.specs.Refusals.{number_of, refusal_numbered, answered, listed, refusal_or_none}
use Rattle.power_sum.specs.Answers as any
use Rattle.desk_reader.specs.Sketches.{Quack}
use Rattle.desk_reader.specs.Sketches.{view, built, signed_count_of, well_formed_of, decode_of, decode_surplus_of}
use Rattle.desk_rules.specs.Desk.{most_lines, reported}
use Rattle.desk_reader.specs.declared.lines.Desk.{Desk}
use Rattle.desk_text.specs.Answer.{difference_of, listed_of, told_of, told_by}

-- An outcome whose refusal, if it is one, stands in the table.
abbrev pub Named : {A : Type 0} → Outcome A → Type 0
Named (refused n) = number_of (refusal_numbered n) ≡ n
Named (given a) = Unit {0}

-- So is one behind the tests of a subtraction.
tests_named : {A : Type 0} (ok same : Bool) (a : A) → Named (unless ok 12 (unless same 2 (given a)))
tests_named true true a = tt
tests_named true false a = refl
tests_named false same a = refl

-- And one behind those of a listing.
list_tests_named : {A : Type 0} (ok within room : Bool) (a : A) → Named (unless ok 12 (unless within 4 (unless room 5 (given a))))
list_tests_named true true true a = tt
list_tests_named true true false a = refl
list_tests_named true false room a = refl
list_tests_named false within room a = refl

-- The subtraction is refused by a number of the table.
pub difference_named : (d : Desk) → Named (difference_of d)
unfolding difference_of calls.sub_assign
difference_named d =
    tests_named (well_formed_of d.sent && well_formed_of d.arrived) (eqb (view d.sent).threshold (view d.arrived).threshold)
    (subtract kind32 (view d.sent) (view d.arrived))

-- So is the listing.
pub listed_named : (z : ℤ) (s : Quack) (l g : List ℕ) (places : ℕ) → Named (listed_of z s l g places)
unfolding any.decode_of any.decode_surplus_of calls.decode calls.decode_surplus
listed_named (pos n) s l g places =
    list_tests_named (well_formed_of s) (leb (view s).count (view s).threshold) (leb (length l) places) (decode kind32 (view s) l)
listed_named (negsuc n) s l g places =
    list_tests_named (well_formed_of s) (leb (surplus_in (view s)) (view s).threshold) (leb (length g) places) (surplus kind32 (view s) g)

-- A refusal that is answered is the outcome's.
pub refused_by : {A B : Type 0} (f : A → B) (o : Outcome A) → Named o → {r : Result B Refusal} → r ≡ answered f o → {e : Refusal} → r ≡ Err e
    → o ≡ refused (number_of e)
refused_by f (refused n) named er ee = ap refused (sym named ∙ ap refusal_or_none (sym er ∙ ee))
refused_by f (given a) named er ee = absurd (true≢false (ap is_ok (sym er ∙ ee)))

-- Where the subtraction is not refused, a refusal of the listing is what is told.
pub told_refused : (o : Outcome Sketch) (l g : List ℕ) {r : Result Quack Refusal} {s : Quack} {p : Result ℕ Refusal} {e : Refusal}
    → r ≡ answered built o → r ≡ Ok s → p ≡ listed (listed_of (signed_count_of s) s l g most_lines) → p ≡ Err e → refused (number_of e) ≡ told_by o l g
told_refused (refused n) l g er es ep ee = absurd (true≢false (ap is_ok (sym es ∙ er)))
told_refused (given d) l g {s = s} er es ep ee =
    let is : s ≡ built d = ap (λ (r : Result Quack Refusal). result_unwrap_or r s) (sym es ∙ er) in
    let z = signed_count_of s in
    let refusal = refused_by length (listed_of z s l g most_lines) (listed_named z s l g most_lines) ep ee in
    sym (ap (reported s.threshold z) refusal) ∙ ap (λ (x : Quack). told_of x l g) is

-- ---- what is listed, by the sign of the count

module _ (s : Quack) (l g : List ℕ) (places : ℕ) where
  -- With a count below zero the surplus among the got codes.
  pub lists_surplus : (z : ℤ) → z <ℤ pos 0 → listed_of z s l g places ≡ decode_surplus_of s g places
  lists_surplus (pos n) l = absurd (grind (arith, l.lt))
  lists_surplus (negsuc n) l = refl

  -- Otherwise what is missing of the log.
  pub lists_missing : (z : ℤ) → pos 0 ≤ℤ z → listed_of z s l g places ≡ decode_of s l places
  lists_missing (pos n) l = refl
  lists_missing (negsuc n) l = absurd (omega arith)

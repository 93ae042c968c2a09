-- The promise of the calls: an input fed in pieces of any length, and then finished, leaves exactly the rules' answer at the front of the lent buffer.
-- What a call answers is whatever its contract allows.
-- Assumes nothing.
use Prim.Native.Nat.{ℕ, ◌≤◌, ◌<◌}
use mathlib.Core.Path.{◌≡◌, ◌∙◌, ap, subst}
use mathlib.Core.List.{List, ◌++◌}
use lib.Dec.{lit≤}
use lib.ListN.{length, drop}
use borrow.Author.Tests.{le-leb, lt-leb}
use contract.Lifetimes.{Lfts}
use denote.Ref.{Bor}
use denote.MutBor.{MutBor}
use Rattle.rules.specs.Kind.{kind32}
use Rattle.rules.specs.Calls.{fitting}
use Rattle.desk_rules.specs.Text.{desk_answer}
use Rattle.desk_rules.specs.Castle.{input_of, Castle, output_for, Overfull, surplus_output_for}
use Rattle.desk_rules.proofs.Castle.{castle_exact}
use Rattle.desk_rules.proofs.Overfull.{overfull_exact}
use Rattle.desk_rules.proofs.Room.{answer_short}
use Rattle.std.specs.Prelude.{Result, Ok, Err}
use Rattle.lent.specs.declared.refusal.Refusal.{Refusal}
use Rattle.lent.specs.declared.refusal.Refusal.TheVariants.{NoRoom}
use Rattle.desk_reader.specs.declared.Reading.{Reading}
use Rattle.desk_reader.specs.Read.{Read}
use Rattle.desk_reader.proofs.Promise.{the_calls, tied}
use Rattle.desk_text.specs.Answer.{finish_of}
use Rattle.desk_text.proofs.Meaning.{tied_finish}
use Rattle.desk_text.proofs.answer.finish.Reads as finish

-- A reading got by calls from these bytes, and what `finish` answers to it.
module _ {bs : List ℕ} {r : Reading} {n : Result ℕ Refusal} (κs : Lfts 3) (log got : Bor (List ℕ)) (out : MutBor (List ℕ)) (log₁ got₁ : Bor (List ℕ)) (out₁ : MutBor (List ℕ))
    (read : Read the_calls bs r log.now got.now)
    (p : finish.Post κs (r, (log, (got, (out, tt)))) n (r, (log₁, (got₁, (out₁, tt))))) where
  -- It comes to the rules' answer, where that fits.
  outcome : finish_of r log.now got.now (length out.now) ≡ fitting (desk_answer kind32 bs) (length out.now)
  outcome = tied_finish bs r log.now got.now (tied read) (length out.now)

  -- A text stands at the front of the buffer, later bytes are untouched, and its length is told.
  abbrev Stands : List ℕ → Type 0
  Stands text = (n ≡ Ok (length text)) × (out₁.now ≡ text ++ drop (length text) out.now)

  -- Where the buffer is long enough, the answer stands at its front, later bytes are untouched, and its length is told.
  pub answered : length (desk_answer kind32 bs) ≤ length out.now → Stands (desk_answer kind32 bs)
  answered l =
      let fits = le-leb (length (desk_answer kind32 bs)) (length out.now) l in
      (p.0 ∙ rw (outcome, fits), p.1.0 ∙ rw (outcome, fits))

  -- So does the text that the rules' answer is proved to be.
  answered_as : {text : List ℕ} → desk_answer kind32 bs ≡ text → length text ≤ length out.now → Stands text
  answered_as e = subst (λ (o : List ℕ). length o ≤ length out.now → Stands o) e answered

  -- Where the pieces together are the lines of a threshold T, the log codes l and the got codes g, each residue is got at most as often as it is logged, and
  -- at most T are missing, the buffer holds exactly the log's entries that are missing, in text, and later bytes are untouched.
  pub castle_listed : (T : ℕ) (l g : List ℕ) → Castle kind32 T l g → bs ≡ input_of T l g → length (output_for kind32 T l g) ≤ length out.now
      → (n ≡ Ok (length (output_for kind32 T l g))) × (out₁.now ≡ output_for kind32 T l g ++ drop (length (output_for kind32 T l g)) out.now)
  castle_listed T l g castle lines = answered_as (ap (desk_answer kind32) lines ∙ castle_exact kind32 T l g castle)

  -- With the roles changed: where each residue is logged at most as often as it is got, and one or more and at most T are surplus, the buffer holds exactly
  -- the got codes that are surplus, in text, and later bytes are untouched.
  pub overfull_listed : (T : ℕ) (l g : List ℕ) → Overfull kind32 T l g → bs ≡ input_of T l g
      → length (surplus_output_for kind32 T l g) ≤ length out.now
      → (n ≡ Ok (length (surplus_output_for kind32 T l g)))
      × (out₁.now ≡ surplus_output_for kind32 T l g ++ drop (length (surplus_output_for kind32 T l g)) out.now)
  overfull_listed T l g overfull lines = answered_as (ap (desk_answer kind32) lines ∙ overfull_exact kind32 T l g overfull)

  -- Where it is too short, that there is no room is answered, and no byte is written.
  pub too_short : length out.now < length (desk_answer kind32 bs) → (n ≡ Err NoRoom) × (out₁.now ≡ out.now)
  too_short l =
      let short = lt-leb (length (desk_answer kind32 bs)) (length out.now) l in
      (p.0 ∙ rw (outcome, short), p.1.0 ∙ rw (outcome, short))

-- A buffer of 262,144 bytes is long enough for every input.
pub long_enough : (input : List ℕ) → length (desk_answer kind32 input) ≤ 262144
long_enough = answer_short kind32 (lit≤ tt)

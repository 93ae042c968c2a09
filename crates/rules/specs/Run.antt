-- Calls that run: a sketch got by calls along a history, what decoding it is to list, and the premise of the promise. For any form of a sketch, by what
-- the contracts of its calls allow. Definitions only.
-- Assumes nothing.
use Rattle.std.specs.Prelude.{ℕ, ◌+◌, ◌≤◌, ◌≡◌, Bool, List, ltb, length}
use Rattle.newton.specs.Members.{count}
use Rattle.rules.specs.Kind.{Kind}
use Rattle.rules.specs.Field.{residue}
use Rattle.rules.specs.Sketch.{Sketch}
use Rattle.rules.specs.Decode.{keep}
use Rattle.rules.specs.History as history
use Rattle.rules.specs.History.{History, put_in, taken_out, net, excess}

-- A form of a sketch and its calls: what a form stands for, whether it passes the test, and what each call's contract allows without a refusal, from what
-- is given to what is handed back. `decodes` and `decodes_surplus` have the log or the got codes, the lent buffer, the refusal, how many were listed, and the
-- buffer after the call.
pub record Calls : Type 1 where
  pub Form : Type 0
  pub Code : Type 0
  pub number : Code → ℕ
  pub view : Form → Sketch
  pub fits : Form → Bool
  pub makes : ℕ → Form → Type 0
  pub inserts : Form → Code → Form → Type 0
  pub removes : Form → Code → Form → Type 0
  pub subtracts_in_place : Form → Form → Form → Type 0
  pub subtracts : Form → Form → Form → Type 0
  pub writes : Form → List ℕ → Type 0
  pub writes_with_hint : Form → ℕ → List ℕ → Type 0
  pub reads : List ℕ → Form → Type 0
  pub decodes : Form → List ℕ → List ℕ → ℕ → ℕ → List ℕ → Type 0
  pub decodes_surplus : Form → List ℕ → List ℕ → ℕ → ℕ → List ℕ → Type 0

-- A sketch got by calls along a history, each answering without a refusal. A sketch that is written, without a hint or with one of at least 1, and
-- whose written bytes alone are read again, carries its history on.
pub data Ran (C : Calls) : History → C.Form → Type 0 where
  made : {s : C.Form} (threshold : ℕ) → C.makes threshold s → Ran C (history.fresh threshold) s
  inserted : {h : History} {s s' : C.Form} (c : C.Code) → Ran C h s → C.inserts s c s' → Ran C (history.insert h (C.number c)) s'
  removed : {h : History} {s s' : C.Form} (c : C.Code) → Ran C h s → C.removes s c s' → Ran C (history.remove h (C.number c)) s'
  subtracted_in_place : {h g : History} {s o s' : C.Form} → Ran C h s → Ran C g o → C.subtracts_in_place s o s' → Ran C (history.sub_assign h g) s'
  subtracted : {h g : History} {s o s' : C.Form} → Ran C h s → Ran C g o → C.subtracts s o s' → Ran C (history.sub h g) s'
  carried : {h : History} {s s' : C.Form} (bs : List ℕ) → Ran C h s → C.writes s bs → C.reads bs s' → Ran C h s'
  carried_by_hint : {h : History} {s s' : C.Form} (m : ℕ) (bs : List ℕ) → Ran C h s → 1 ≤ m → C.writes_with_hint s m bs → C.reads bs s'
      → Ran C (history.carried h m) s'

-- The premise: each residue ends with a net number of at least zero, they are n in all, and n is at most the sums kept.
pub record LeftIn (K : Kind) (h : History) (kept n : ℕ) : Type 0 where
  pub none_below : (r : ℕ) → count r (taken_out K h) ≤ count r (put_in K h)
  pub in_all : length (put_in K h) ≡ n + length (taken_out K h)
  pub enough : n ≤ kept

-- The entries of a log whose residue has a net number above zero, as they stand, in the log's order, repeats kept.
abbrev pub missing : Kind → History → List ℕ → List ℕ
missing K h log = keep (λ c. ltb 0 (net K h (residue K c))) log

-- The premise with the roles changed: each residue ends with a net number of at most zero, they are n below zero in all, and n is at most the sums kept.
pub record ExceedsIn (K : Kind) (h : History) (kept n : ℕ) : Type 0 where
  pub none_above : (r : ℕ) → count r (put_in K h) ≤ count r (taken_out K h)
  pub in_all : length (taken_out K h) ≡ n + length (put_in K h)
  pub few : n ≤ kept

-- The got codes whose residue has a net number below zero, as they stand, in their order, repeats kept.
abbrev pub surplus_among : Kind → History → List ℕ → List ℕ
surplus_among K h got = keep (λ c. ltb 0 (excess K h (residue K c))) got

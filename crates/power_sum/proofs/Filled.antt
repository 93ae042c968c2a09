-- A call that fills a lent buffer: its answer and the buffer, from what the call comes to, and back.
-- Assumes nothing.
use Rattle.std.proofs.Common.{◌≡◌, ℕ, ◌≤◌, List, ◌++◌, length, take, drop, take_at, Result, Ok, Err, refl, sym, ap, ◌∙◌, arith}
use Rattle.std.specs.Result.{IsErr, IsErrAnd}
use lib.ListN.{length-append}
use Rattle.rules.specs.Calls.{Outcome, refused, given, written}
use Rattle.lent.specs.Refusals.{refusal_numbered, answered, listed}
use Rattle.lent.specs.declared.refusal.Refusal.{Refusal}
use Rattle.power_sum.proofs.Checked.{handed_on}

-- A refusal is answered, and the buffer stays.
pub refusal : {o : Outcome (List ℕ)} {n : ℕ} (buffer : List ℕ) → o ≡ refused n → (Err (refusal_numbered n) ≡ listed o) × (buffer ≡ written o buffer)
refusal buffer e = (rw e, rw e)

-- A list that is given is counted, and goes to the front.
pub listing : (buffer : List ℕ) {o : Outcome (List ℕ)} {n : ℕ} {l after : List ℕ} → o ≡ given l → n ≡ length l → after ≡ l ++ drop n buffer
    → (Ok n ≡ listed o) × (after ≡ written o buffer)
listing buffer eo en ea = (rw (eo, en), ea ∙ rw (eo, en))

-- What a call is refused for is a refusal of the rule.
pub refused_for : {A B : Type 0} (f : A → B) (o : Outcome A) {r : Result B Refusal} {e : Refusal} → r ≡ answered f o → r ≡ Err e
    → (n : ℕ) × (o ≡ refused n) × (e ≡ refusal_numbered n)
refused_for f (refused n) er ee = (n, refl, let p = sym ee ∙ er in cc)
refused_for f (given a) er ee = let p = sym ee ∙ er in cc

-- A refusal that a `?` hands on is that of every call that the rule refuses so.
pub handed_for : {A B C : Type 0} (f : A → B) (o : Outcome A) {r : Result B Refusal} {e : Refusal} (h : A → C) (answer : Result C Refusal) → r ≡ answered f o
    → r ≡ Err e → IsErr answer × IsErrAnd answer (λ d. d ≡ e) → answer ≡ answered h o
handed_for {C = C} f o h answer er ee handed =
    let p = refused_for f o er ee in
    handed_on answer handed ∙ ap (λ (e : Refusal). Err e) p.2 ∙ sym (ap (answered h) p.1)

-- What a call answers that was not refused is made of what the rule gives.
pub given_for : {A B : Type 0} (f : A → B) (o : Outcome A) {r : Result B Refusal} {b : B} → r ≡ answered f o → r ≡ Ok b
    → (a : A) × (o ≡ given a) × (b ≡ f a)
given_for f (refused n) er eb = let p = sym eb ∙ er in cc
given_for f (given a) er eb = let p = sym eb ∙ er in (a, refl, cc)

-- A buffer holds n numbers at its front: the list that an outcome gives.
pub record Holds (o : Outcome (List ℕ)) (n : ℕ) (buffer : List ℕ) : Type 0 where
  pub list : List ℕ
  pub comes : o ≡ given list
  pub many : n ≡ length list
  pub front : take n buffer ≡ list
  pub room : n ≤ length buffer

-- So it is after a call that was not refused.
pub holds : (o : Outcome (List ℕ)) (before : List ℕ) {n : ℕ} {buffer : List ℕ} {r : Result ℕ Refusal} → r ≡ listed o → r ≡ Ok n → buffer ≡ written o before
    → Holds o n buffer
holds (refused m) before er en eb = let p = sym en ∙ er in cc
holds (given l) before {n} {buffer} er en eb =
    let p = sym en ∙ er in
    let many : n ≡ length l = cc in
    record {
      list = l;
      comes = refl;
      many = many;
      front = rw eb (take_at l _ n (sym many));
      room = rw eb (omega (arith, many, length-append l (drop (length l) before)));
    }

-- What a call answers and what it leaves, as the two clauses of its contract.
-- Assumes nothing.
use Rattle.std.proofs.Common.{◌≡◌, ℕ, ◌++◌, ◌≤◌, List, length, take, drop, Result, Ok, Err, refl, sym, ap, ◌∙◌, arith}
use lib.Seq.{take_at}
use lib.ListN.{length-append}
use Rattle.rules.specs.Calls.{Outcome, refused, given, refusal_of, written}
use Rattle.rules.proofs.Bytes.{refused_by}
use Rattle.rules.proofs.Outcomes.{Numbered, in_table, nonzero, unrefused}
use Rattle.lent.specs.declared.refusal.Refusal.{Refusal}
use Rattle.lent.specs.Refusals.{refusal_numbered, answered, changed, listed}

module _ (ws : List ℕ) {r : Result (Unit {0}) Refusal} where
  -- A call that is refused answers the refusal, and leaves what it was lent as it was.
  pub refuses : {o : Outcome (List ℕ)} {n : ℕ} → r ≡ Err (refusal_numbered n) → o ≡ refused n → record { answer : r ≡ changed o; words : ws ≡ written o ws }
  refuses er eo = record { answer = er ∙ sym (ap (λ (o : Outcome (List ℕ)). changed o) eo); words = sym (ap (λ (o : Outcome (List ℕ)). written o ws) eo) }

  -- A call that is not, leaves what the rule gives.
  pub stored : (o : Outcome (List ℕ)) → Numbered o → r ≡ Ok tt → {left after : List ℕ} → left ≡ after → (0 ≡ refusal_of o) × (after ≡ written o ws)
      → record { answer : r ≡ changed o; words : left ≡ written o ws }
  stored o numbered er el both =
      let found = unrefused o (nonzero o numbered) (sym both.0) in
      record { answer = er ∙ sym (ap (λ (o : Outcome (List ℕ)). changed o) found.1); words = el ∙ both.1 }

  -- A call that is refused by a call below it, by a number that is not 0.
  pub left_alone : (o : Outcome (List ℕ)) {n : ℕ} → r ≡ Err (refusal_numbered n) → (n ≡ 0 → ⊥) → {left after : List ℕ} → left ≡ after
      → (n ≡ refusal_of o) × (after ≡ written o ws) → record { answer : r ≡ changed o; words : left ≡ written o ws }
  left_alone o er some el both =
      record { answer = er ∙ sym (ap (λ (o : Outcome (List ℕ)). changed o) (refused_by o both.0 some)); words = el ∙ both.1 }

module _ (buffer : List ℕ) {o : Outcome (List ℕ)} {r : Result ℕ Refusal} where
  -- A call that writes a list and is refused answers the refusal, and leaves the buffer as it was.
  pub refuses_list : {n : ℕ} → r ≡ Err (refusal_numbered n) → o ≡ refused n → record { answer : r ≡ listed o; buffer : buffer ≡ written o buffer }
  refuses_list er eo = record { answer = er ∙ sym (ap (λ (o : Outcome (List ℕ)). listed o) eo); buffer = sym (ap (λ (o : Outcome (List ℕ)). written o buffer) eo) }

  -- One that is not, counts what it writes over the front.
  pub lists : {n : ℕ} {l after : List ℕ} → r ≡ Ok n → o ≡ given l → n ≡ length l → after ≡ l ++ drop n buffer
      → record { answer : r ≡ listed o; buffer : after ≡ written o buffer }
  lists er eo en ea = record { answer = er ∙ rw (eo, en); buffer = ea ∙ rw (eo, en) }

-- What an answer tells of the rule that it is the answer of.
module _ {A B : Type 0} (f : A → B) (o : Outcome A) where
  -- The refusal of an answer, and what it gives, or the other.
  abbrev why : Refusal → Result B Refusal → Refusal
  why e (Ok y) = e
  why e (Err x) = x

  abbrev what : B → Result B Refusal → B
  what y (Ok x) = x
  what y (Err e) = y

  -- A refusal is the rule's.
  pub refused_of : {e : Refusal} → Err e ≡ answered f o → (n : ℕ) × ((o ≡ refused n) × (e ≡ refusal_numbered n))
  refused_of {e} is = by_case o is refl
    where
      by_case : (p : Outcome A) → Err e ≡ answered f p → o ≡ p → (n : ℕ) × ((o ≡ refused n) × (e ≡ refusal_numbered n))
      by_case (refused n) is same = (n, (same, ap (why e) is))
      by_case (given a) is same = let x : Err e ≡ Ok (f a) = is in cc

  -- What is answered is made of what the rule gives.
  pub given_of : {y : B} → Ok y ≡ answered f o → (a : A) × ((o ≡ given a) × (y ≡ f a))
  given_of {y} is = by_case o is refl
    where
      by_case : (p : Outcome A) → Ok y ≡ answered f p → o ≡ p → (a : A) × ((o ≡ given a) × (y ≡ f a))
      by_case (refused k) is same = let x : Ok y ≡ Err (refusal_numbered k) = is in cc
      by_case (given a) is same = (a, (same, ap (what y) is))

-- What gives something is not refused.
pub not_refused : {A B : Type 0} (f : A → B) {o : Outcome A} {a : A} {e : Refusal} → o ≡ given a → Err e ≡ answered f o → ⊥
not_refused f {o} {a} {e} gives is = let x : Err e ≡ Ok (f a) = is ∙ ap (λ (o : Outcome _). answered f o) gives in cc

-- The number of a refusal of the table is not 0.
pub some_number : {A : Type 0} (o : Outcome A) {n : ℕ} → Numbered o → o ≡ refused n → n ≡ 0 → ⊥
some_number (refused m) {n} h e z = omega (arith, (in_table m h).0, ap refusal_of e, z)
some_number (given a) {n} h e z = let x : given a ≡ refused n = e in cc

-- A buffer that holds the list that a rule gives at its front.
module _ {o : Outcome (List ℕ)} {l after : List ℕ} (before : List ℕ) (n : ℕ) (comes : o ≡ given l) (many : n ≡ length l) (left : after ≡ written o before) where
  here : after ≡ l ++ drop (length l) before
  here = left ∙ ap (λ (o : Outcome (List ℕ)). written o before) comes

  pub front : take n after ≡ l
  front = rw here (take_at l _ n (sym many))

  pub room : n ≤ length after
  room = rw here (omega (arith, many, length-append l (drop (length l) before)))

-- The numbers of refusals and the refusals with these numbers; so the answer of a call and what C is handed tell the same.
-- Assumes nothing.
use Rattle.std.proofs.Common.{Result, ◌≡◌, ℕ, ◌≤◌, Bool, true, false, cond, eqb, refl, sym, ap, ◌∙◌, List, arith}
use Rattle.std.proofs.lemmas.Bool.{eqb-true, eq-eqb}
use Rattle.rules.specs.Calls.{Outcome, refused, given, refusal_of}
use Rattle.rules.proofs.Outcomes.{Numbered, in_table}
use Rattle.lent.specs.declared.refusal.Refusal.{Refusal}
use Rattle.lent.specs.declared.Number.{Number}
use Rattle.lent.specs.Answers.{numbered}
use Rattle.lent.specs.Refusals.{number_of, refusal_numbered, answered, listed, changed, refusal_or_none, number_answer}

-- One entry of the table, and those behind it.
entry : (k n : ℕ) (r rest : Refusal) → number_of r ≡ k → ((n ≡ k → ⊥) → number_of rest ≡ n) → number_of (cond (eqb n k) r rest) ≡ n
entry k n r rest e next = by_test (eqb n k) refl
  where
    by_test : (here : Bool) → eqb n k ≡ here → number_of (cond here r rest) ≡ n
    by_test true t = e ∙ sym (eqb-true n k t)
    by_test false t = next (λ z. let x : true ≡ false = sym (eq-eqb n k z) ∙ t in cc)

-- The refusal with a number of the table has that number.
pub number_back : (n : ℕ) → 1 ≤ n → n ≤ 12 → number_of (refusal_numbered n) ≡ n
number_back n some few =
    entry 1 n _ _ refl (λ a. entry 2 n _ _ refl (λ b. entry 3 n _ _ refl (λ c. entry 4 n _ _ refl (λ d. entry 5 n _ _ refl (λ e. entry 6 n _ _ refl (λ f.
    entry 7 n _ _ refl (λ g. entry 8 n _ _ refl (λ h. entry 9 n _ _ refl (λ i. entry 10 n _ _ refl (λ j. entry 11 n _ _ refl (λ k. omega arith)))))))))))

-- The number of an answer's refusal, or 0, is that of the rule's.
refusal_back : {A B : Type 0} (f : A → B) (o : Outcome A) → Numbered o → refusal_or_none (answered f o) ≡ refusal_of o
refusal_back f (refused n) h = number_back n (in_table n h).0 (in_table n h).1
refusal_back f (given a) h = refl

-- How many an answer counts, or the number of its refusal, is what the rule comes to.
pub number_back_listed : (o : Outcome (List ℕ)) → Numbered o → number_answer (listed o) ≡ numbered o
number_back_listed (refused n) h = ap (λ (k : ℕ). record { refusal = k; value = 0 }) (number_back n (in_table n h).0 (in_table n h).1)
number_back_listed (given l) h = refl

-- What C is handed by a call that changes what it is lent.
pub refusal_handed : {A : Type 0} (o : Outcome A) {r : Result (Unit {0}) Refusal} {n : ℕ} → Numbered o → r ≡ changed o → n ≡ refusal_or_none r → n ≡ refusal_of o
refusal_handed o h er en = en ∙ ap (λ (r : Result (Unit {0}) Refusal). refusal_or_none r) er ∙ refusal_back _ o h

-- And by one that writes a list.
pub number_handed : (o : Outcome (List ℕ)) {r : Result ℕ Refusal} {n : Number} → Numbered o → r ≡ listed o → n ≡ number_answer r → n ≡ numbered o
number_handed o h er en = en ∙ ap (λ (r : Result ℕ Refusal). number_answer r) er ∙ number_back_listed o h

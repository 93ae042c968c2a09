-- What it is for a contract to leave nothing open, to allow neither of two answers, and not to be met by refusing.
-- Assumes nothing.
use Rattle.std.specs.Prelude.{◌≡◌, List, ℕ, eqb, false}
use Rattle.std.specs.Borrow.{MutBor}

-- What a contract promises of a result, where the arguments at the exit are those at the entry: for a call that is lent nothing to change.
abbrev pub Holds : {X A : Type 0} → (X → A → X → Type 0) → X → A → Type 0
Holds post x r = post x r x

-- A promise determines its result: any two results that it allows are equal.
abbrev pub Determines : {A : Type 0} → (A → Type 0) → Type 0
Determines {A} promise = (r r' : A) → promise r → promise r' → r ≡ r'

-- A promise determines its result and what a lent slice holds at the end: any two outcomes that it allows are equal.
abbrev pub DeterminesBoth : {A : Type 0} → (A → MutBor (List ℕ) → Type 0) → Type 0
DeterminesBoth {A} promise = (r r' : A) (s s' : MutBor (List ℕ)) → promise r s → promise r' s' → (r ≡ r') × (s.now ≡ s'.now)

-- A promise allows neither of two results.
abbrev pub RefusesBoth : {A : Type 0} → (A → Type 0) → A → A → Type 0
RefusesBoth promise a b = (promise a → ⊥) × (promise b → ⊥)

-- A promise of a result, and of what a lent slice holds at the end, allows neither this result nor these numbers.
abbrev pub RefusesEither : {A : Type 0} → (A → MutBor (List ℕ) → Type 0) → A → List ℕ → Type 0
RefusesEither {A} promise a l = ((s : MutBor (List ℕ)) → promise a s → ⊥) × ((r : A) (s : MutBor (List ℕ)) → s.now ≡ l → promise r s → ⊥)

-- A promise is not met by refusing: it allows no result with a refusal, whose number is read off it.
abbrev pub MustAnswer : {A : Type 0} → (A → ℕ) → (A → Type 0) → Type 0
MustAnswer {A} refusal promise = (a : A) → eqb (refusal a) 0 ≡ false → promise a → ⊥

-- A promise of a result, off which the number of a refusal is read, and of what a lent slice holds at the end allows no refusal, not this result, and not
-- these numbers.
abbrev pub RefusesAll : {A : Type 0} → (A → ℕ) → (A → MutBor (List ℕ) → Type 0) → A → List ℕ → Type 0
RefusesAll refusal promise a l = ((s : MutBor (List ℕ)) → MustAnswer refusal (λ r. promise r s)) × RefusesEither promise a l

-- A promise that is one equation determines its result, and refuses whatever differs from the rule in something that is read off it.
-- Assumes nothing.
use Prim.Native.Nat.{ℕ}
use mathlib.Core.Path.{◌≡◌, ◌∙◌, sym, ap}
use mathlib.Core.Bool.{false}
use mathlib.Core.List.{List}
use lib.Dec.{eqb}
use borrow.Author.Tests.{eqb-false}
use denote.Ref.{Bor}
use denote.MutBor.{MutBor}
use Rattle.rules.specs.Determines.{Determines, DeterminesBoth, RefusesBoth, RefusesEither, MustAnswer, RefusesAll}

-- A reference to a value, wherever it points.
abbrev pub lent : {X : Type 0} → X → Bor X
lent x = record { ref_ptr = (0, 0); now = x }

-- A reference that may be written through, to a value, wherever it points.
abbrev pub lent_mut : {X : Type 0} → X → MutBor X
lent_mut x = record { ref_ptr = (0, 0); ghost_name = 0; now = x }

-- A promise that is one equation determines its result.
pub by_equation : {A : Type 0} (rule : A) → Determines (λ (r : A). r ≡ rule)
by_equation rule r r' p p' = p ∙ sym p'

-- So does one equation for the result and one for what was lent.
pub by_equations : {A : Type 0} (rule : A) (left : List ℕ) → DeterminesBoth (λ (r : A) (s : MutBor (List ℕ)). (r ≡ rule) × (s.now ≡ left))
by_equations rule left r r' s s' p p' = (p.0 ∙ sym p'.0, p.1 ∙ sym p'.1)

-- An answer that differs from the rule in a number read off both is refused.
pub differs : {A : Type 0} {rule : A} (f : A → ℕ) (a : A) → eqb (f a) (f rule) ≡ false → a ≡ rule → ⊥
differs {rule = rule} f a t p = eqb-false (f a) (f rule) t (ap f p)

-- So are two.
pub both_differ : {A : Type 0} {rule : A} (f : A → ℕ) (a b : A) → eqb (f a) (f rule) ≡ false → eqb (f b) (f rule) ≡ false
    → RefusesBoth (λ (r : A). r ≡ rule) a b
both_differ f a b t u = (differs f a t, differs f b u)

-- So is a result, and what a lent slice holds, where each differs from its rule.
pub either_differs : {A : Type 0} {rule : A} {left : List ℕ} (f : A → ℕ) (g : List ℕ → ℕ) (a : A) (l : List ℕ) → eqb (f a) (f rule) ≡ false
    → eqb (g l) (g left) ≡ false → RefusesEither (λ (r : A) (s : MutBor (List ℕ)). (r ≡ rule) × (s.now ≡ left)) a l
either_differs f g a l t u = (λ s p. differs f a t p.0, λ r s e p. differs g l u (sym e ∙ p.1))

-- Where the rule refuses nothing, no refusal is allowed.
pub must_answer : {A : Type 0} {rule : A} (refusal : A → ℕ) → refusal rule ≡ 0 → MustAnswer refusal (λ (r : A). r ≡ rule)
must_answer refusal none a t p = eqb-false (refusal a) 0 t (ap refusal p ∙ none)

-- So for a result and what a lent slice holds, where the result and the numbers differ from theirs too.
pub all_differ : {A : Type 0} {rule : A} {left : List ℕ} (refusal f : A → ℕ) (g : List ℕ → ℕ) (a : A) (l : List ℕ) → refusal rule ≡ 0
    → eqb (f a) (f rule) ≡ false → eqb (g l) (g left) ≡ false → RefusesAll refusal (λ (r : A) (s : MutBor (List ℕ)). (r ≡ rule) × (s.now ≡ left)) a l
all_differ refusal f g a l none t u = (λ s b refuses p. must_answer refusal none b refuses p.0, either_differs f g a l t u)

-- Every public call here determines its answer, and what it leaves in the part that it is lent.
-- Assumes nothing.
use Prim.Native.Nat.{ℕ}
use mathlib.Core.Path.{◌≡◌, ◌∙◌, sym}
use mathlib.Core.List.{List}
use lib.IntN.{ℤ}
use contract.Lifetimes.{Lfts}
use denote.Ref.{Bor}
use denote.MutBor.{MutBor}
use Rattle.std.specs.Prelude.{Result}
use Rattle.lent.specs.declared.refusal.Refusal.{Refusal}
use Rattle.rules.specs.Determines.{Determines}
use Rattle.rules.proofs.Determined.{by_equation}
use Rattle.lent.proofs.refusal.Refusal.number.Reads as refusal_number
use Rattle.lent.proofs.refusal.refusal_or_none.Reads as refusal_or_none
use Rattle.lent.proofs.refusal.NumberFromResultUsizeRefusal.from.Reads as number_from
use Rattle.lent.proofs.put_number.Reads as put_number
use Rattle.lent.proofs.number_of.Reads as number_of
use Rattle.lent.proofs.count_of.Reads as count_of
use Rattle.lent.proofs.signed.Reads as signed
use Rattle.lent.proofs.size.Reads as size
use Rattle.lent.proofs.below_zero.Reads as below_zero

-- A promise determines what a lent slice holds at the end: any two that it allows hold the same.
abbrev pub Leaves : (MutBor (List ℕ) → Type 0) → Type 0
Leaves promise = (s s' : MutBor (List ℕ)) → promise s → promise s' → s.now ≡ s'.now

-- One equation for it does.
pub left_by_equation : (left : List ℕ) → Leaves (λ (s : MutBor (List ℕ)). s.now ≡ left)
left_by_equation left s s' p p' = p ∙ sym p'

-- A refusal has one number.
pub refusal_number_determined : (r : Refusal) → Determines (λ n. refusal_number.Post tt (r, tt) n (r, tt))
refusal_number_determined r = by_equation _

-- An answer has one number for C.
pub refusal_or_none_determined : (a a' : Result (Unit {0}) Refusal) → Determines (λ n. refusal_or_none.Post tt (a, tt) n (a', tt))
refusal_or_none_determined a a' = by_equation _

-- A list's answer makes one answer for C.
pub number_from_determined : (a a' : Result ℕ Refusal) → Determines (λ n. number_from.Post tt (a, tt) n (a', tt))
number_from_determined a a' = by_equation _

-- Writing a number leaves one list of bytes.
pub put_number_determined : (κs : Lfts 1) (part : MutBor (List ℕ)) (x : ℕ) → Leaves (λ part₁. put_number.Post κs (part, (x, tt)) tt (part₁, (x, tt)))
put_number_determined κs part x = left_by_equation _

-- A part says one number.
pub number_of_determined : (κs : Lfts 1) (part part' : Bor (List ℕ)) → Determines (λ r. number_of.Post κs (part, tt) r (part', tt))
number_of_determined κs part part' r r' p q = p.0 ∙ sym q.0

-- A packet says one count.
pub count_of_determined : (κs : Lfts 1) (part part' : Bor (List ℕ)) → Determines (λ r. count_of.Post κs (part, tt) r (part', tt))
count_of_determined κs part part' = by_equation _

-- A count has one reading as a signed number.
pub signed_determined : (n : ℕ) → Determines (λ r. signed.Post tt (n, tt) r (n, tt))
signed_determined n = by_equation _

-- A signed number has one size.
pub size_determined : (z : ℤ) → Determines (λ r. size.Post tt (z, tt) r (z, tt))
size_determined z = by_equation _

-- A signed number is below zero by one number.
pub below_zero_determined : (z : ℤ) → Determines (λ r. below_zero.Post tt (z, tt) r (z, tt))
below_zero_determined z = by_equation _

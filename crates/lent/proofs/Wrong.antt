-- Two wrong answers for each public call here, at one input each: the contract allows neither.
-- Assumes nothing.
use Prim.Native.Nat.{ℕ}
use mathlib.Core.Path.{refl}
use mathlib.Core.List.{List, [], ◌∷◌}
use lib.IntN.{pos, negsuc}
use lib.ListN.{get_or}
use contract.Lifetimes.{Lfts}
use Rattle.rules.specs.Determines.{RefusesBoth}
use Rattle.rules.specs.Signed.{signed_count, below_zero}
use Rattle.rules.specs.Packet.{bytes, number}
use Rattle.rules.proofs.Determined.{lent, lent_mut, differs, both_differ}
use Rattle.lent.specs.declared.Number.{Number}
use Rattle.std.specs.Prelude.{Result, Ok, Err}
use Rattle.lent.specs.declared.refusal.Refusal.{Refusal}
use Rattle.lent.specs.declared.refusal.Refusal.TheVariants.{NoRoom}
use Rattle.lent.proofs.refusal.Refusal.number.Reads as refusal_number
use Rattle.lent.proofs.refusal.refusal_or_none.Reads as refusal_or_none
use Rattle.lent.proofs.refusal.NumberFromResultUsizeRefusal.from.Reads as number_from
use Rattle.lent.proofs.put_number.Reads as put_number
use Rattle.lent.proofs.number_of.Reads as number_of
use Rattle.lent.proofs.count_of.Reads as count_of
use Rattle.lent.proofs.signed.Reads as signed
use Rattle.lent.proofs.size.Reads as size
use Rattle.lent.proofs.below_zero.Reads as below_zero

-- A short buffer is said to be none, or too many.
pub refusal_number_wrong : RefusesBoth (λ n. refusal_number.Post tt (NoRoom, tt) n (NoRoom, tt)) 0 4
refusal_number_wrong = both_differ (λ (n : ℕ). n) _ _ refl refl

-- A refused call is said not to be, or by another number.
pub refusal_or_none_wrong : (a : Result (Unit {0}) Refusal) → RefusesBoth (λ n. refusal_or_none.Post tt (Err NoRoom, tt) n (a, tt)) 0 12
refusal_or_none_wrong a = both_differ (λ (n : ℕ). n) _ _ refl refl

-- Five numbers written are said to be none, or the refusal 5.
pub number_from_wrong : (a : Result ℕ Refusal)
    → RefusesBoth (λ n. number_from.Post tt (Ok 5, tt) n (a, tt)) (record { refusal = 0; value = 0 }) (record { refusal = 5; value = 0 })
number_from_wrong a = both_differ (λ (n : Number). n.value) _ _ refl refl

-- The highest byte comes first, or the part is left as it was.
pub put_number_wrong : (κs : Lfts 1)
    → RefusesBoth (λ (l : List ℕ). put_number.Post κs (lent_mut (0 ∷ 0 ∷ []), (256, tt)) tt (lent_mut l, (256, tt))) (1 ∷ 0 ∷ []) (0 ∷ 0 ∷ [])
unfolding bytes
put_number_wrong κs = both_differ (λ (l : List ℕ). get_or l 1 0) _ _ refl refl

-- The highest byte is taken for the lowest, or only one byte is read.
pub number_of_wrong : (κs : Lfts 1) → RefusesBoth (λ r. number_of.Post κs (lent (2 ∷ 1 ∷ []), tt) r (lent (2 ∷ 1 ∷ []), tt)) 513 2
unfolding number
number_of_wrong κs = (λ p. differs (λ (n : ℕ). n) 513 refl p.0, λ p. differs (λ (n : ℕ). n) 2 refl p.0)

-- The highest byte is taken for the lowest, or a fifth byte is read.
pub count_of_wrong : (κs : Lfts 1)
    → RefusesBoth (λ r. count_of.Post κs (lent (2 ∷ 1 ∷ 0 ∷ 0 ∷ 1 ∷ []), tt) r (lent (2 ∷ 1 ∷ 0 ∷ 0 ∷ 1 ∷ []), tt)) 33619968 4294967554
unfolding number
count_of_wrong κs = both_differ (λ (n : ℕ). n) _ _ refl refl

-- The least count that is negative is taken as it is, or as the next above the lowest number.
pub signed_wrong : RefusesBoth (λ r. signed.Post tt (2147483648, tt) r (2147483648, tt)) (pos 2147483648) (negsuc 2147483646)
unfolding signed_count
signed_wrong = both_differ below_zero _ _ refl refl

-- The size of the lowest number is that of the greatest, or nothing.
pub size_wrong : RefusesBoth (λ r. size.Post tt (negsuc 2147483647, tt) r (negsuc 2147483647, tt)) 2147483647 0
size_wrong = both_differ (λ (n : ℕ). n) _ _ refl refl

-- -5 is below zero by nothing, or by 4.
pub below_zero_wrong : RefusesBoth (λ r. below_zero.Post tt (negsuc 4, tt) r (negsuc 4, tt)) 0 4
below_zero_wrong = both_differ (λ (n : ℕ). n) _ _ refl refl

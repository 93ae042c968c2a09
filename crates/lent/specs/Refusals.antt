-- The table of refusals beside the rules, which know a refusal by its number. Definitions only.
-- Assumes nothing.
use Rattle.std.specs.Prelude.{ℕ, List, cond, eqb, length, Result, Ok, Err}
use Rattle.rules.specs.Calls.{Outcome, refused, given}
use Rattle.lent.specs.declared.refusal.Refusal.{Refusal}
use Rattle.lent.specs.declared.refusal.Refusal.TheVariants.{ThresholdOutOfRange, ThresholdsDiffer, NoLastCode, TooMany, NoRoom, PacketTooShort}
use Rattle.lent.specs.declared.refusal.Refusal.TheVariants.{SumsOutOfRange, NotBelowPrime, BadLine, TooManyLines, NoCoefficient, NotWellFormed}
use Rattle.lent.specs.declared.Number.{Number}

-- The number of a refusal in the table.
abbrev pub number_of : Refusal → ℕ
number_of ThresholdOutOfRange = 1
number_of ThresholdsDiffer = 2
number_of NoLastCode = 3
number_of TooMany = 4
number_of NoRoom = 5
number_of PacketTooShort = 6
number_of SumsOutOfRange = 7
number_of NotBelowPrime = 8
number_of BadLine = 9
number_of TooManyLines = 10
number_of NoCoefficient = 11
number_of NotWellFormed = 12

-- The refusal with a number of the table, which every refusal of a rule has.
abbrev pub refusal_numbered : ℕ → Refusal
refusal_numbered n =
    cond (eqb n 1) ThresholdOutOfRange (cond (eqb n 2) ThresholdsDiffer (cond (eqb n 3) NoLastCode (cond (eqb n 4) TooMany
    (cond (eqb n 5) NoRoom (cond (eqb n 6) PacketTooShort (cond (eqb n 7) SumsOutOfRange (cond (eqb n 8) NotBelowPrime
    (cond (eqb n 9) BadLine (cond (eqb n 10) TooManyLines (cond (eqb n 11) NoCoefficient NotWellFormed))))))))))

-- What a call answers: the refusal, or what is made of what the rule gives.
abbrev pub answered : {A B : Type 0} → (A → B) → Outcome A → Result B Refusal
answered f (refused n) = Err (refusal_numbered n)
answered f (given a) = Ok (f a)

-- The answer of a call that writes a list: the refusal, or how many it wrote.
abbrev pub listed : Outcome (List ℕ) → Result ℕ Refusal
listed = answered length

-- The answer of a call that only changes what it is lent.
abbrev pub changed : {A : Type 0} → Outcome A → Result (Unit {0}) Refusal
changed = answered (λ _. tt)

-- The number of a call's refusal, 0 for none.
abbrev pub refusal_or_none : {A : Type 0} → Result A Refusal → ℕ
refusal_or_none (Ok a) = 0
refusal_or_none (Err refusal) = number_of refusal

-- How many were written, or the number of a refusal and 0.
abbrev pub number_answer : Result ℕ Refusal → Number
number_answer (Ok n) = record { refusal = 0; value = n }
number_answer (Err refusal) = record { refusal = number_of refusal; value = 0 }

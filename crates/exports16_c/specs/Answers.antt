-- The answers of calls as structs for C, beside the rules. Definitions only.
-- Assumes nothing.
use Rattle.std.specs.Prelude.{ℕ, Result, Ok, Err}
use Rattle.rules.specs.Kind.{kind16}
use Rattle.rules.specs.Field.{power, multiplications}
use Rattle.rules.specs.Calls.{Outcome, refused, given}
use Rattle.lent.specs.declared.refusal.Refusal.{Refusal}
use Rattle.lent.specs.Refusals.{number_of}
use Rattle.modint.specs.declared.Residue.{Residue}
use Rattle.exports16_c.specs.declared.evaluator.Evaluated.{Evaluated}
use Rattle.exports16_c.specs.declared.field.Powered.{Powered}

-- The power of a number, with the multiplications made for it.
abbrev pub powered : ℕ → ℕ → Powered
powered b e = record { value = power kind16 b e; multiplications = multiplications e }

-- The value of a rule, or the number of its refusal and 0.
abbrev pub valued : Outcome ℕ → Evaluated
valued (refused n) = record { refusal = n; value = 0 }
valued (given x) = record { refusal = 0; value = x }

-- The value of an answer, or the number of its refusal and 0.
abbrev pub evaluated : Result (Residue ℕ) Refusal → Evaluated
evaluated (Ok r) = record { refusal = 0; value = r.0 }
evaluated (Err refusal) = record { refusal = number_of refusal; value = 0 }

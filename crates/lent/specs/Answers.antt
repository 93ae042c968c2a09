-- The answer of a call that writes a list, beside the rules. Definitions only.
-- Assumes nothing.
use Rattle.std.specs.Prelude.{ℕ, List}
use Rattle.rules.specs.Calls.{Outcome, refusal_of, length_of}
use Rattle.lent.specs.declared.Number.{Number}

-- The answer of a call that writes a list: its refusal, and how many it wrote.
abbrev pub numbered : Outcome (List ℕ) → Number
numbered o = record { refusal = refusal_of o; value = length_of o }

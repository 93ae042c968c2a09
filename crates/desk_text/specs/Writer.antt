-- What the writer's functions leave and answer. Definitions only.
-- Assumes nothing.
use Rattle.std.specs.Prelude.{ℕ, ◌+◌, ◌-◌, ◌^◌, ◌≤◌, ◌<◌, ◌≡◌, List, [], ◌∷◌, ◌++◌, min, length, take, Result, Ok, Err}
use Rattle.std.proofs.Math.Seq.{paste}
use Rattle.rules.specs.Calls.{Outcome, refused, given}
use Rattle.lent.specs.declared.refusal.Refusal.{Refusal}
use Rattle.lent.specs.Refusals.{number_of}
use Rattle.desk_rules.specs.Desk as rules
use Rattle.desk_rules.specs.Lines.{LF}
use Rattle.desk_text.specs.declared.writer.Report.{Report}
use Rattle.desk_text.specs.declared.writer.Writer.{Writer}

-- A text goes to a writer: it is counted, to no more than a usize holds, and where all of it fits it is stored behind what came before it. The buffer is the
-- same one, as long as it was, which is less than a usize holds.
pub record Pushed (before : Writer) (text : List ℕ) (after : Writer) : Type 0 where
  pub same : after.out.ghost_name ≡ before.out.ghost_name
  pub ends : after.at ≡ min (before.at + length text) (2 ^ 64 - 1)
  pub long : length after.out.now ≡ length before.out.now
  pub small : length before.out.now < 2 ^ 64
  pub stored : before.at + length text ≤ length before.out.now → after.out.now ≡ paste before.out.now before.at text (length text)

-- A word, the digits of a number, and one LF.
abbrev pub line_of : List ℕ → List ℕ → List ℕ
line_of word digits = word ++ (digits ++ (LF ∷ []))

-- What a report is to the rules.
abbrev pub report_of : Report → rules.Report
report_of r = record { threshold = r.threshold; count = r.count; found = r.found.now }

-- A report as the rules have it, or the number of the refusal.
abbrev pub numbered : Result Report Refusal → Outcome rules.Report
numbered (Ok r) = given (report_of r)
numbered (Err refusal) = refused (number_of refusal)

-- What is told, as the rules have it: a refusal is its number already.
abbrev pub told : Result Report ℕ → Outcome rules.Report
told (Ok r) = given (report_of r)
told (Err number) = refused number

-- So many bytes lie at the front of a buffer. The second part follows from the first; a caller that lends `&out[..n]` is asked both.
abbrev pub Within : ℕ → List ℕ → Type 0
Within n buffer = (n ≤ length buffer) × (n ≡ length (take n buffer))

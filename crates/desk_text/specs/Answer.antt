-- What the end of the input comes to. Definitions only.
-- Assumes nothing.
use Rattle.std.specs.Prelude.{ℕ, Bool, true, false, cond, ◌&&◌, List, ℤ, pos, negsuc, leb, length, take}
use Rattle.desk_reader.specs.Sketches.{Quack}
use Rattle.desk_reader.specs.Sketches.{view, built, well_formed_of, signed_count_of, decode_of, decode_surplus_of}
use Rattle.rules.specs.Kind.{kind32}
use Rattle.rules.specs.Sketch.{Sketch}
use Rattle.rules.specs.Calls as calls
use Rattle.rules.specs.Calls.{Outcome, refused, given, unless, fitting}
use Rattle.desk_rules.specs.Desk.{most_lines, Report, reported}
use Rattle.desk_rules.specs.Text.{printed}
use Rattle.desk_reader.specs.declared.bytes.Line.{Line}
use Rattle.desk_reader.specs.declared.bytes.Line.TheVariants.{Fresh, Word, Value, Bad}
use Rattle.desk_reader.specs.declared.lines.Phase.{Phase}
use Rattle.desk_reader.specs.declared.lines.Phase.TheVariants.{Unbegun, Logs, Gots, Stopped}
use Rattle.desk_reader.specs.declared.lines.Desk.{Desk}
use Rattle.desk_reader.specs.declared.Reading.{Reading}

-- No byte of a line has come.
abbrev pub is_fresh : Line → Bool
is_fresh Fresh = true
is_fresh (Word k at) = false
is_fresh (Value k v) = false
is_fresh Bad = false

-- The got lines' sketch is subtracted from the log lines'.
unfoldable pub difference_of : Desk → Outcome Sketch
difference_of d = calls.sub_assign kind32 (well_formed_of d.sent && well_formed_of d.arrived) (view d.sent) (view d.arrived)

-- What is listed with a signed count, for a lent list of so many places: of one below zero the surplus among the got codes, of any other what is missing of
-- the log.
abbrev pub listed_of : ℤ → Quack → List ℕ → List ℕ → ℕ → Outcome (List ℕ)
listed_of (pos n) s l g places = decode_of s l places
listed_of (negsuc n) s l g places = decode_surplus_of s g places

-- What a sketch tells of a log and of got codes: the refusal of the decoding, or a report.
abbrev pub told_of : Quack → List ℕ → List ℕ → Outcome Report
told_of s l g = reported s.threshold (signed_count_of s) (listed_of (signed_count_of s) s l g most_lines)

-- The same by what the subtraction comes to: its refusal, or what its sketch tells.
abbrev pub told_by : Outcome Sketch → List ℕ → List ℕ → Outcome Report
told_by (refused n) l g = refused n
told_by (given s) l g = told_of (built s) l g

-- What a reading comes to at the end of the input, with the codes of the log lines and of the got lines: an input without a line is refused by 9, so is a line
-- begun, and an earlier refusal stands.
abbrev pub ended_by : Reading → List ℕ → List ℕ → Outcome Report
ended_by r l g = by_phase r.desk.phase (cond (is_fresh r.line) (told_by (difference_of r.desk) l g) (refused 9))
  where
    by_phase : Phase → Outcome Report → Outcome Report
    by_phase Unbegun o = refused 9
    by_phase Logs o = o
    by_phase Gots o = o
    by_phase (Stopped n) o = refused n

-- What the reading comes to, with the lists that it was lent.
unfoldable pub outcome_of : Reading → List ℕ → List ℕ → Outcome Report
outcome_of r log got = ended_by r (take r.desk.entries log) (take r.desk.gots got)

-- A lent list has a place for each line that may come, and no more lines are claimed than that.
abbrev pub claims : ℕ → List ℕ → Bool
claims lines list = leb most_lines (length list) && leb lines most_lines

-- Both lent lists have a place for each line that may come, and the desk claims no more entries and no more got codes than that.
abbrev pub in_bounds : Desk → List ℕ → List ℕ → Bool
in_bounds d log got = claims d.entries log && claims d.gots got

-- The text for a lent buffer of so many bytes: 5 where a lent list has fewer places than there may be lines, or the reading claims more than that, and 5
-- where the buffer is shorter than the text.
unfoldable pub finish_of : Reading → List ℕ → List ℕ → ℕ → Outcome (List ℕ)
finish_of r log got room = unless (in_bounds r.desk log got) 5 (fitting (printed (outcome_of r log got)) room)

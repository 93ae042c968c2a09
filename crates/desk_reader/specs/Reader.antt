-- What the reader's functions answer, over its own structs. Definitions only.
-- Assumes nothing.
use Rattle.std.specs.Prelude.{ℕ, ◌+◌, ◌-◌, ◌*◌, Bool, cond, ◌&&◌, eqb, leb, ltb, length, get_or, set, Result, Ok, Err}
use mathlib.Core.List.{List, foldl}
use Rattle.modint.specs.declared.Code.{Code}
use Rattle.desk_reader.specs.Sketches.{Quack}
use Rattle.desk_reader.specs.Sketches.{empty, new_of, insert_of}
use Rattle.std.specs.Result.{result_unwrap_or}
use Rattle.rules.specs.Kind.{kind32}
use Rattle.lent.specs.declared.refusal.Refusal.{Refusal}
use Rattle.lent.specs.declared.refusal.Refusal.TheVariants.{NoRoom}
use Rattle.lent.specs.Refusals.{number_of}
use Rattle.desk_rules.specs.Lines.{LF, threshold_word, log_word, got_word, greatest_number, is_digit}
use Rattle.desk_rules.specs.Desk.{most_lines}
use Rattle.desk_reader.specs.declared.bytes.Key.{Key}
use Rattle.desk_reader.specs.declared.bytes.Key.TheVariants.{Threshold, Log, Got}
use Rattle.desk_reader.specs.declared.bytes.Line.{Line}
use Rattle.desk_reader.specs.declared.bytes.Line.TheVariants.{Fresh, Word, Value, Bad}
use Rattle.desk_reader.specs.declared.lines.Phase.{Phase}
use Rattle.desk_reader.specs.declared.lines.Phase.TheVariants.{Unbegun, Logs, Gots, Stopped}
use Rattle.desk_reader.specs.declared.lines.Desk.{Desk}
use Rattle.desk_reader.specs.declared.Reading.{Reading}

-- ---- a line, byte by byte

-- The bytes of a line's word, its `=` included.
abbrev pub word_of : Key → List ℕ
word_of Threshold = threshold_word
word_of Log = log_word
word_of Got = got_word

-- The first byte tells the word.
unfoldable pub first_byte : ℕ → Line
first_byte b = cond (eqb b 116) (Word Threshold 1) (cond (eqb b 108) (Word Log 1) (cond (eqb b 103) (Word Got 1) Bad))

-- A byte of the word, at this place of it.
unfoldable pub word_byte : Key → ℕ → ℕ → Line
word_byte k at b = cond (eqb b (get_or (word_of k) at 0)) (Word k (at + 1)) Bad

-- The byte behind the word is a digit.
unfoldable pub first_digit : Key → ℕ → Line
first_digit k b = cond (is_digit b) (Value k (b - 48)) Bad

-- Behind a leading zero there is no digit, and none takes the number beyond the greatest.
unfoldable pub next_digit : Key → ℕ → ℕ → Line
next_digit k v b = cond (eqb v 0) Bad (cond (is_digit b && leb (v * 10 + (b - 48)) (greatest_number kind32)) (Value k (v * 10 + (b - 48))) Bad)

-- One byte more of a line, not its LF.
unfoldable pub line_byte : Line → ℕ → Line
line_byte Fresh b = first_byte b
line_byte (Word k at) b = cond (ltb at (length (word_of k))) (word_byte k at b) (first_digit k b)
line_byte (Value k v) b = next_digit k v b
line_byte Bad b = Bad

-- ---- a whole line

-- One answer for each phase.
abbrev pub by_phase : {A : Type 0} → Phase → A → A → A → A → A
by_phase Unbegun a b c d = a
by_phase Logs a b c d = b
by_phase Gots a b c d = c
by_phase (Stopped n) a b c d = d

-- A desk without sketches: before the first line, or after a refusal.
abbrev pub empty_desk : Phase → Desk
empty_desk p = record { phase = p; entries = 0; gots = 0; sent = empty; arrived = empty }

-- A line that is not allowed where it stands: 9, unless an earlier line has decided.
abbrev pub bad_line : Desk → Desk
bad_line d = by_phase d.phase (empty_desk (Stopped 9)) (empty_desk (Stopped 9)) (empty_desk (Stopped 9)) d

-- The desk after a threshold line, by what making a sketch answers.
abbrev pub started_desk : Result Quack Refusal → Desk
started_desk (Ok fresh) = record { phase = Logs; entries = 0; gots = 0; sent = fresh; arrived = fresh }
started_desk (Err refusal) = empty_desk (Stopped (number_of refusal))

-- A threshold line: allowed as the first.
abbrev pub threshold_line : Desk → ℕ → Desk
threshold_line d T = by_phase d.phase (started_desk (new_of T)) (bad_line d) (bad_line d) (bad_line d)

-- A code of this number.
abbrev pub coded : ℕ → Code ℕ
coded c = record { 0 = c }

-- The desk with one log code more.
abbrev pub log_desk : Desk → ℕ → Desk
log_desk d c = record { phase = Logs; entries = d.entries + 1; gots = d.gots; sent = result_unwrap_or (insert_of d.sent (coded c)) d.sent; arrived = d.arrived }

-- A log line: allowed before the got lines, and 10 beyond as many as there may be.
abbrev pub log_line : Desk → ℕ → Desk
log_line d c = by_phase d.phase (bad_line d) (cond (ltb d.entries most_lines) (log_desk d c) (empty_desk (Stopped 10))) (bad_line d) (bad_line d)

-- A log line's code is stored behind the entries so far.
abbrev pub stored_log : Desk → ℕ → List ℕ → List ℕ
stored_log d c log = by_phase d.phase log (cond (ltb d.entries most_lines) (set log d.entries c) log) log log

-- The desk with one got code more.
abbrev pub got_desk : Desk → ℕ → Desk
got_desk d c = record { phase = Gots; entries = d.entries; gots = d.gots + 1; sent = d.sent; arrived = result_unwrap_or (insert_of d.arrived (coded c)) d.arrived }

-- A got code where got lines are allowed: 10 beyond as many as there may be.
abbrev pub kept_desk : Desk → ℕ → Desk
kept_desk d c = cond (ltb d.gots most_lines) (got_desk d c) (empty_desk (Stopped 10))

-- It is stored behind the got codes so far.
abbrev pub kept_got : Desk → ℕ → List ℕ → List ℕ
kept_got d c got = cond (ltb d.gots most_lines) (set got d.gots c) got

-- A got line: allowed behind the threshold line, and no log line comes behind it.
abbrev pub got_line : Desk → ℕ → Desk
got_line d c = by_phase d.phase (bad_line d) (kept_desk d c) (kept_desk d c) (bad_line d)

-- The lent got codes after a got line.
abbrev pub stored_got : Desk → ℕ → List ℕ → List ℕ
stored_got d c got = by_phase d.phase got (kept_got d c got) (kept_got d c got) got

-- The desk after a whole line, by where its bytes have led.
unfoldable pub take_line : Desk → Line → Desk
take_line d (Value Threshold v) = threshold_line d v
take_line d (Value Log v) = log_line d v
take_line d (Value Got v) = got_line d v
take_line d Fresh = bad_line d
take_line d (Word k at) = bad_line d
take_line d Bad = bad_line d

-- The lent log after a whole line.
unfoldable pub taken_log : Desk → Line → List ℕ → List ℕ
taken_log d (Value Threshold v) log = log
taken_log d (Value Log v) log = stored_log d v log
taken_log d (Value Got v) log = log
taken_log d Fresh log = log
taken_log d (Word k at) log = log
taken_log d Bad log = log

-- The lent got codes after a whole line.
unfoldable pub taken_got : Desk → Line → List ℕ → List ℕ
taken_got d (Value Threshold v) got = got
taken_got d (Value Log v) got = got
taken_got d (Value Got v) got = stored_got d v got
taken_got d Fresh got = got
taken_got d (Word k at) got = got
taken_got d Bad got = got

-- ---- a piece

-- A reading with the log and the got codes that it is lent.
pub record Standing : Type 0 where
  pub reading : Reading
  pub log : List ℕ
  pub got : List ℕ

-- The three side by side.
abbrev pub standing : Reading → List ℕ → List ℕ → Standing
standing r log got = record { reading = r; log = log; got = got }

-- A desk and the line begun.
abbrev pub reading : Desk → Line → Reading
reading d l = record { desk = d; line = l }

-- After a whole line.
abbrev pub line_taken : Standing → Standing
line_taken s =
    standing (reading (take_line s.reading.desk s.reading.line) Fresh) (taken_log s.reading.desk s.reading.line s.log)
    (taken_got s.reading.desk s.reading.line s.got)

-- After one more byte of a line.
abbrev pub byte_taken : Standing → ℕ → Standing
byte_taken s b = standing (reading s.reading.desk (line_byte s.reading.line b)) s.log s.got

-- LF ends a line, any other byte goes on with it.
abbrev pub byte_of : Standing → ℕ → Standing
byte_of s b = cond (eqb b LF) (line_taken s) (byte_taken s b)

-- The bytes of a piece, one after the other.
abbrev pub fed_of : Standing → List ℕ → Standing
fed_of = foldl byte_of

-- ---- the calls

-- The reading before the first byte.
abbrev pub start_of : Reading
start_of = reading (empty_desk Unbegun) Fresh

-- Both lent arrays have a place for each line that may come.
abbrev pub enough_places : List ℕ → List ℕ → Bool
enough_places log got = leb most_lines (length log) && leb most_lines (length got)

-- Refused for want of room where the log or the got codes have fewer places than there may be lines of each; both stay then, and the reading is the caller's.
unfoldable pub feed_answer : Reading → List ℕ → List ℕ → List ℕ → Result Reading Refusal
feed_answer r log got piece = cond (enough_places log got) (Ok (fed_of (standing r log got) piece).reading) (Err NoRoom)

-- The lent log after a piece: as it was where the call is refused.
unfoldable pub feed_log : Reading → List ℕ → List ℕ → List ℕ → List ℕ
feed_log r log got piece = cond (enough_places log got) (fed_of (standing r log got) piece).log log

-- The lent got codes after a piece: as they were where the call is refused.
unfoldable pub feed_got : Reading → List ℕ → List ℕ → List ℕ → List ℕ
feed_got r log got piece = cond (enough_places log got) (fed_of (standing r log got) piece).got got

-- What can be said of standard input: some bytes came, and what is written is the answer to them. Definitions only.
-- Assumes nothing.
use Rattle.std.specs.Prelude.{ℕ, ◌≤◌, ◌≡◌, cond, List, eqb, min, length, take, Result, Ok, Err}
use Rattle.std.specs.declared.ops.ControlFlow.{ControlFlow}
use Rattle.std.specs.declared.ops.ControlFlow.TheVariants.{Break, Continue}
use Rattle.std.specs.Result.{result_unwrap_or}
use Rattle.rules.specs.Kind.{kind32}
use Rattle.desk_rules.specs.Desk.{most_lines}
use Rattle.desk_rules.specs.Text.{desk_answer}
use Rattle.desk_reader.specs.declared.Reading.{Reading}
use Rattle.desk_reader.specs.Reader.{start_of, feed_answer, feed_log, feed_got}

-- How many bytes the program lends for the answer: as many as any answer needs.
abbrev pub room : ℕ
room = 262144

-- After a read that moved n bytes to the front of a piece: with none, the input has ended and the reading stands so; otherwise there may be more.
abbrev pub after_bytes : Reading → List ℕ → List ℕ → ℕ → List ℕ → ControlFlow Reading Reading
after_bytes r log got n piece = cond (eqb n 0) (Break r) (Continue (result_unwrap_or (feed_answer r log got (take n piece)) r))

-- After a read that moved so many bytes, or failed: then the reading is that of an empty input.
unfoldable pub after_read : {E : Type 0} → Reading → List ℕ → List ℕ → Result ℕ E → List ℕ → ControlFlow Reading Reading
after_read r log got (Ok k) piece = after_bytes r log got (min k (length piece)) piece
after_read r log got (Err e) piece = Break start_of

-- The lent log then: as it was, unless bytes came.
unfoldable pub log_after_read : {E : Type 0} → Reading → List ℕ → List ℕ → Result ℕ E → List ℕ → List ℕ
log_after_read r log got (Ok k) piece =
    cond (eqb (min k (length piece)) 0) log (feed_log r log got (take (min k (length piece)) piece))
log_after_read r log got (Err e) piece = log

-- The lent got codes then: as they were, unless bytes came.
unfoldable pub got_after_read : {E : Type 0} → Reading → List ℕ → List ℕ → Result ℕ E → List ℕ → List ℕ
got_after_read r log got (Ok k) piece =
    cond (eqb (min k (length piece)) 0) got (feed_got r log got (take (min k (length piece)) piece))
got_after_read r log got (Err e) piece = got

-- A reading, its log and its got codes as some bytes lead to, fed from the start with lists that have a place for each line that may come.
pub record Came (r : Reading) (log got : List ℕ) : Type 0 where
  pub bytes : List ℕ
  pub before : List ℕ
  pub got_before : List ℕ
  pub places : most_lines ≤ length before
  pub got_places : most_lines ≤ length got_before
  pub reading : r ≡ result_unwrap_or (feed_answer start_of before got_before bytes) start_of
  pub entries : log ≡ feed_log start_of before got_before bytes
  pub arrived : got ≡ feed_got start_of before got_before bytes

-- What is written is the whole answer to some bytes.
pub record Answered (written : List ℕ) : Type 0 where
  pub bytes : List ℕ
  pub text : written ≡ desk_answer kind32 bytes

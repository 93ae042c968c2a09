-- A reading got by calls, by what the contracts of the reader's calls allow. Definitions only.
-- Assumes nothing.
use Rattle.std.specs.Prelude.{ℕ, ◌≤◌, List, [], ◌++◌, length, Result}
use Rattle.std.specs.Result.{result_unwrap_or}
use Rattle.desk_rules.specs.Desk.{most_lines}
use Rattle.desk_reader.specs.declared.Reading.{Reading}
use Rattle.lent.specs.declared.refusal.Refusal.{Refusal}

-- What the contracts of the reader's calls allow: `starts` the reading that is answered; `feeds`, for a reading, the log and the got codes that it is lent and
-- a piece, the answer and both lists after the call.
pub record Calls : Type 1 where
  pub starts : Reading → Type 0
  pub feeds : Reading → List ℕ → List ℕ → List ℕ → Result Reading Refusal → List ℕ → List ℕ → Type 0

-- A reading and the lists that it is lent, got by calls from these bytes: `start`, with a log and got codes that have a place for each line that may come, and
-- then `feed` for each piece, where a refused call leaves the reading as it was.
pub data Read (C : Calls) : List ℕ → Reading → List ℕ → List ℕ → Type 0 where
  begun : {r : Reading} (log got : List ℕ) → most_lines ≤ length log → most_lines ≤ length got → C.starts r → Read C [] r log got
  further : {bs : List ℕ} {r : Reading} {z : Result Reading Refusal} (log got piece log' got' : List ℕ) → Read C bs r log got → C.feeds r log got piece z log' got'
      → Read C (bs ++ piece) (result_unwrap_or z r) log' got'

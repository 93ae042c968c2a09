-- What reads hand over leads from some bytes to some more, and what is written is the answer to them.
-- Assumes nothing.
use Prim.Native.Nat.{ℕ, ◌≤◌}
use mathlib.Core.Path.{◌≡◌, refl, ap, sym, ◌∙◌}
use mathlib.Core.Bool.{Bool, true, false, cond}
use mathlib.Core.List.{List, [], ◌++◌, foldl-append}
use native.Mathlib.Omega.{arith}
use lib.Dec.{eqb}
use lib.ListN.{length, take}
use lib.Seq.{take-append_seam}
use borrow.Author.Tests.{le-leb}
use Rattle.std.specs.Prelude.{min, Result, Ok, Err}
use Rattle.std.specs.Result.{result_unwrap_or}
use Rattle.rules.specs.Kind.{kind32}
use Rattle.rules.specs.Calls.{written, fitting}
use Rattle.desk_rules.specs.Desk.{most_lines}
use Rattle.desk_rules.specs.Text.{desk_answer}
use Rattle.desk_rules.proofs.Desk.{state_after}
use Rattle.std.specs.declared.ops.ControlFlow.{ControlFlow}
use Rattle.std.specs.declared.ops.ControlFlow.TheVariants.{Break, Continue}
use Rattle.lent.specs.declared.refusal.Refusal.{Refusal}
use Rattle.lent.specs.Refusals.{listed}
use Rattle.desk_reader.specs.declared.Reading.{Reading}
use Rattle.desk_reader.specs.Reader.{Standing, standing, byte_of, fed_of, start_of, enough_places, feed_answer, feed_log, feed_got}
use Rattle.desk_reader.proofs.Meaning.{Tied, tied_start, enough_places_lem, tied_feed}
use Rattle.desk_text.specs.Answer.{finish_of}
use Rattle.desk_text.proofs.Meaning.{tied_finish}
use Rattle.desk_text.proofs.Promise.{long_enough}
use Rattle.desk.specs.Input.{room, after_read, log_after_read, got_after_read, Came, Answered}

-- ---- what came

-- Before the first byte.
pub came_start : {r : Reading} (log got : List ℕ) → most_lines ≤ length log → most_lines ≤ length got → r ≡ start_of → Came r log got
unfolding feed_answer feed_log feed_got
came_start log got places got_places e =
    let enough = enough_places_lem log got places got_places in
    record {
      bytes = [];
      before = log;
      got_before = got;
      places = places;
      got_places = got_places;
      reading = rw enough e;
      entries = rw enough;
      arrived = rw enough;
    }

-- The reading after a read, whether or not there may be more.
abbrev pub stands : ControlFlow Reading Reading → Reading
stands (Break r) = r
stands (Continue r) = r

-- A reading and its lists that some bytes lead to.
module _ {r : Reading} {log got : List ℕ} (k : Came r log got) where
  -- It stands where the rules stand after those bytes.
  came_tied : Tied (state_after kind32 k.bytes) (standing r log got)
  came_tied =
      rw (k.reading, k.entries, k.arrived)
      (tied_feed [] start_of k.before k.got_before (tied_start k.before k.got_before k.places k.got_places) k.bytes)

  -- The log has a place for each entry that may come.
  pub came_places : most_lines ≤ length log
  came_places = came_tied.room

  -- So have the got codes.
  pub came_got_places : most_lines ≤ length got
  came_got_places = came_tied.got_room

  -- Both pass the test.
  came_enough : enough_places log got ≡ true
  came_enough = enough_places_lem log got came_places came_got_places

  -- So did those at the start.
  came_first : enough_places k.before k.got_before ≡ true
  came_first = enough_places_lem k.before k.got_before k.places k.got_places

  -- The bytes one after the other.
  came_bytes : standing r log got ≡ fed_of (standing start_of k.before k.got_before) k.bytes
  unfolding feed_answer feed_log feed_got
  came_bytes = rw (k.reading, k.entries, k.arrived, came_first)

  -- A piece more.
  pub came_piece : (piece : List ℕ) → Came (result_unwrap_or (feed_answer r log got piece) r) (feed_log r log got piece) (feed_got r log got piece)
  unfolding feed_answer feed_log feed_got
  came_piece piece =
      let joined : fed_of (standing r log got) piece ≡ fed_of (standing start_of k.before k.got_before) (k.bytes ++ piece) =
      ap (λ (w : Standing). fed_of w piece) came_bytes ∙ sym (foldl-append byte_of (standing start_of k.before k.got_before) k.bytes piece) in
      record {
        bytes = k.bytes ++ piece;
        before = k.before;
        got_before = k.got_before;
        places = k.places;
        got_places = k.got_places;
        reading = rw (came_enough, came_first) (ap (λ (w : Standing). w.reading) joined);
        entries = rw (came_enough, came_first) (ap (λ (w : Standing). w.log) joined);
        arrived = rw (came_enough, came_first) (ap (λ (w : Standing). w.got) joined);
      }

  -- With none, or a piece more.
  came_moved : (none : Bool) (piece : List ℕ)
      → Came (stands (cond none (Break r) (Continue (result_unwrap_or (feed_answer r log got piece) r)))) (cond none log (feed_log r log got piece))
      (cond none got (feed_got r log got piece))
  came_moved true piece = k
  came_moved false piece = came_piece piece

  -- After one more read, what its answer and the lent lists then are.
  pub came_read : {E : Type 0} (told : Result ℕ E) (piece : List ℕ) {flow : ControlFlow Reading Reading} {log' got' : List ℕ}
      → flow ≡ after_read r log got told piece → log' ≡ log_after_read r log got told piece → got' ≡ got_after_read r log got told piece
      → Came (stands flow) log' got'
  unfolding after_read log_after_read got_after_read
  came_read (Ok n) piece e f g = rw (e, f, g) (came_moved (eqb (min n (length piece)) 0) (take (min n (length piece)) piece))
  came_read (Err x) piece e f g = rw (e, f, g) (came_start log got came_places came_got_places refl)

  -- ---- what is written

  -- The answer to the bytes that came, whole.
  pub answered : (out : List ℕ) {out₁ : List ℕ} {z : Result ℕ Refusal} → room ≤ length out → z ≡ listed (finish_of r log got (length out))
      → out₁ ≡ written (finish_of r log got (length out)) out → Answered (take (result_unwrap_or z 0) out₁)
  answered out l e f =
      let text = desk_answer kind32 k.bytes in
      let all : finish_of r log got (length out) ≡ fitting text (length out) = tied_finish k.bytes r log got came_tied (length out) in
      let within : length text ≤ length out = omega (arith, long_enough k.bytes) in
      let fits = le-leb (length text) (length out) within in
      record { bytes = k.bytes; text = rw (e, f, all, fits) (take-append_seam text _) }

-- The reader stands where the rules stand, whatever the pieces.
-- Assumes nothing.
use Prim.Native.Nat.{ℕ, ◌≤◌, ◌<◌, zero-le}
use mathlib.Core.Path.{◌≡◌, refl, ap, sym, ◌∙◌}
use mathlib.Core.Bool.{Bool, true, false, cond}
use mathlib.Core.List.{List, [], ◌∷◌, ◌++◌, foldl, foldl-append}
use native.Mathlib.Numerals.{add-one}
use native.Mathlib.Omega.{arith}
use lib.Dec.{eqb, ltb}
use lib.ListN.{length, take, set}
use lib.Seq.{take-suc-set}
use Rattle.std.proofs.lemmas.List.{length_push}
use borrow.Author.Tests.{ltb-true, le-leb}
use Rattle.rules.specs.Kind.{kind32}
use Rattle.rules.specs.Sketch as sketch
use Rattle.rules.specs.Sketch.{Sketch, WellFormed, in_range}
use Rattle.rules.specs.Calls as calls
use Rattle.rules.specs.Calls.{given, unless}
use Rattle.desk_rules.specs.Lines.{LF, parsed}
use Rattle.desk_rules.specs.Desk.{most_lines, Seen, unbegun, logs, gots, stopped, next, sketch_of_codes}
use Rattle.rules.proofs.WellFormed.{fresh_well_formed, insert_well_formed, in_range_parts}
use Rattle.desk_rules.proofs.Desk as rules
use Rattle.desk_rules.proofs.Desk.{State, state_after}
use Rattle.std.specs.Prelude.{Result, Ok}
use Rattle.modint.specs.Width.{width32}
use Rattle.power_sum.specs.Answers as any
use Rattle.desk_reader.specs.Sketches.{Quack, built, insert_of}
use Rattle.lent.specs.declared.refusal.Refusal.{Refusal}
use Rattle.lent.specs.Refusals as refusals
use Rattle.std.specs.Result.{result_unwrap_or}
use Rattle.power_sum.proofs.Struct.{view_built, built_well_formed}
use Rattle.desk_reader.specs.declared.bytes.Key.TheVariants.{Threshold, Log, Got}
use Rattle.desk_reader.specs.declared.bytes.Line.{Line}
use Rattle.desk_reader.specs.declared.bytes.Line.TheVariants.{Fresh, Word, Value, Bad}
use Rattle.desk_reader.specs.declared.lines.Phase.TheVariants.{Unbegun, Logs, Gots, Stopped}
use Rattle.desk_reader.specs.declared.lines.Desk.{Desk}
use Rattle.desk_reader.specs.declared.Reading.{Reading}
use Rattle.desk_reader.specs.Reader.{line_byte, empty_desk, started_desk, coded, log_desk, got_desk, take_line, taken_log, taken_got, Standing, standing}
use Rattle.desk_reader.specs.Reader.{line_taken, byte_taken, byte_of, fed_of, start_of, enough_places, feed_answer, feed_log, feed_got}
use Rattle.desk_reader.proofs.Steps.{taken_length, taken_got_length}
use Rattle.desk_reader.proofs.Parse.{said, led, led_says, led_more}

-- ---- sketches of codes

-- The sketch of codes, inserted one by one into a fresh one.
abbrev pub codes : ℕ → List ℕ → Sketch
codes = sketch_of_codes kind32

-- The threshold is in range.
abbrev pub InRange : ℕ → Type 0
InRange T = (1 ≤ T) × (T ≤ kind32.greatest)

-- Inserting keeps a sketch well formed.
more_well_formed : (s : Sketch) (l : List ℕ) → WellFormed kind32 s → WellFormed kind32 (foldl (sketch.insert kind32) s l)
more_well_formed s [] w = w
more_well_formed s (c ∷ l) w = more_well_formed (sketch.insert kind32 s c) l (insert_well_formed kind32 s c w)

-- The sketch of codes is well formed.
pub codes_well_formed : (T : ℕ) (l : List ℕ) → InRange T → WellFormed kind32 (codes T l)
codes_well_formed T l r = more_well_formed (sketch.fresh T) l (fresh_well_formed kind32 T r.0 r.1)

-- Inserting keeps the threshold.
more_threshold : (s : Sketch) (l : List ℕ) → (foldl (sketch.insert kind32) s l).threshold ≡ s.threshold
unfolding sketch.insert
more_threshold s [] = refl
more_threshold s (c ∷ l) = more_threshold (sketch.insert kind32 s c) l

-- The sketch of codes has the threshold that it was made with.
pub codes_threshold : (T : ℕ) (l : List ℕ) → (codes T l).threshold ≡ T
unfolding sketch.fresh
codes_threshold T l = more_threshold (sketch.fresh T) l

-- One code more is inserted last.
codes_more : (T : ℕ) (l : List ℕ) (c : ℕ) → codes T (l ++ (c ∷ [])) ≡ sketch.insert kind32 (codes T l) c
codes_more T l c = foldl-append (sketch.insert kind32) (sketch.fresh T) l (c ∷ [])

-- Insert on the struct of a well-formed sketch is the rule on the sketch.
insert_built : (g : Sketch) (c : ℕ) → WellFormed kind32 g → insert_of (built g) (coded c) ≡ Ok (built (sketch.insert kind32 g c))
unfolding any.insert_of calls.insert
insert_built g c w = rw (built_well_formed width32 g w, view_built width32 g w)

-- One code more, by the call.
insert_more : (T : ℕ) (l : List ℕ) (c : ℕ) → InRange T
    → result_unwrap_or (insert_of (built (codes T l)) (coded c)) (built (codes T l)) ≡ built (codes T (l ++ (c ∷ [])))
insert_more T l c r =
    ap (λ (a : Result Quack Refusal). result_unwrap_or a (built (codes T l))) (insert_built (codes T l) c (codes_well_formed T l r))
    ∙ ap built (sym (codes_more T l c))

-- ---- where the reader stands

-- The desk after these lines.
abbrev desk_of : Seen → Desk
desk_of unbegun = empty_desk Unbegun
desk_of (logs T l) = record { phase = Logs; entries = length l; gots = 0; sent = built (codes T l); arrived = built (codes T []) }
desk_of (gots T l g) = record { phase = Gots; entries = length l; gots = length g; sent = built (codes T l); arrived = built (codes T g) }
desk_of (stopped n) = empty_desk (Stopped n)

-- The log codes of these lines.
abbrev entries_of : Seen → List ℕ
entries_of unbegun = []
entries_of (logs T l) = l
entries_of (gots T l g) = l
entries_of (stopped n) = []

-- The got codes of these lines.
abbrev gots_of : Seen → List ℕ
gots_of unbegun = []
gots_of (logs T l) = []
gots_of (gots T l g) = g
gots_of (stopped n) = []

-- Their threshold, where they have one, is in range.
abbrev Ranged : Seen → Type 0
Ranged unbegun = Unit {0}
Ranged (logs T l) = InRange T
Ranged (gots T l g) = InRange T
Ranged (stopped n) = Unit {0}

-- The whole lines: the desk, and the entries and the got codes at the front of the lent lists.
pub record Holds (s : Seen) (d : Desk) (log got : List ℕ) : Type 0 where
  pub desk : d ≡ desk_of s
  pub entries : take (length (entries_of s)) log ≡ entries_of s
  pub arrived : take (length (gots_of s)) got ≡ gots_of s
  pub few : length (entries_of s) ≤ most_lines
  pub few_gots : length (gots_of s) ≤ most_lines
  pub ranged : Ranged s

-- With the line begun.
pub record Tied (s : State) (w : Standing) : Type 0 where
  pub lines : Holds s.seen w.reading.desk w.log w.got
  pub line : w.reading.line ≡ led s.begun
  pub room : most_lines ≤ length w.log
  pub got_room : most_lines ≤ length w.got

-- The lists have no more entries and no more got codes than they may.
pub entries_few : (s : Seen) (d : Desk) (log got : List ℕ) → Holds s d log got → (d.entries ≤ most_lines) × (d.gots ≤ most_lines)
entries_few unbegun d log got h = rw h.desk (zero-le, zero-le)
entries_few (logs T l) d log got h = rw h.desk (h.few, zero-le)
entries_few (gots T l g) d log got h = rw h.desk (h.few, h.few_gots)
entries_few (stopped n) d log got h = rw h.desk (zero-le, zero-le)

-- ---- a whole line

-- A refusal holds with any lists.
holds_stopped : (n : ℕ) (log got : List ℕ) → Holds (stopped n) (empty_desk (Stopped n)) log got
holds_stopped n log got = record { desk = refl; entries = refl; arrived = refl; few = zero-le; few_gots = zero-le; ranged = tt }

-- A threshold line: a fresh sketch, or the refusal 1.
holds_started : (T : ℕ) (log got : List ℕ) (ok : Bool) → in_range kind32 T ≡ ok
    → Holds (cond ok (logs T []) (stopped 1)) (started_desk (refusals.answered built (unless ok 1 (given (sketch.fresh T))))) log got
holds_started T log got true e =
    record { desk = refl; entries = refl; arrived = refl; few = zero-le; few_gots = zero-le; ranged = in_range_parts kind32 T e }
holds_started T log got false e = holds_stopped 1 log got

-- One more stored behind the first of a list.
one_stored : (c : ℕ) (l list : List ℕ) → take (length l) list ≡ l → length l < length list
    → take (length (l ++ (c ∷ []))) (set list (length l) c) ≡ l ++ (c ∷ [])
one_stored c l list front within = rw (length_push l c, add-one, take-suc-set list (length l) c within, front)

-- One code more, where the lists' first places hold the entries and the got codes so far.
module _ (T c : ℕ) (l log got : List ℕ) (front : take (length l) log ≡ l) (few : length l ≤ most_lines) (range : InRange T) where
  -- A log line: the code is stored behind them, or the refusal 10.
  holds_logged : (room : Bool) → ltb (length l) most_lines ≡ room → most_lines ≤ length log
      → Holds (cond room (logs T (l ++ (c ∷ []))) (stopped 10)) (cond room (log_desk (desk_of (logs T l)) c) (empty_desk (Stopped 10)))
      (cond room (set log (length l) c) log) got
  holds_logged true e places =
      let more = ltb-true (length l) most_lines e in
      let within : length l < length log = omega arith in
      record {
        desk = rw (insert_more T l c range, length_push l c);
        entries = one_stored c l log front within;
        arrived = refl;
        few = omega (arith, length_push l c);
        few_gots = zero-le;
        ranged = range;
      }
  holds_logged false e places = holds_stopped 10 log got

  -- A got line: the log stays, and the code is stored behind the got codes, or the refusal 10.
  holds_got : (g : List ℕ) → take (length g) got ≡ g → (room : Bool) → ltb (length g) most_lines ≡ room → most_lines ≤ length got
      → Holds (cond room (gots T l (g ++ (c ∷ []))) (stopped 10)) (cond room (got_desk (desk_of (gots T l g)) c) (empty_desk (Stopped 10))) log
      (cond room (set got (length g) c) got)
  holds_got g got_front true e places =
      let more = ltb-true (length g) most_lines e in
      let within : length g < length got = omega arith in
      record {
        desk = rw (insert_more T g c range, length_push g c);
        entries = front;
        arrived = one_stored c g got got_front within;
        few = few;
        few_gots = omega (arith, length_push g c);
        ranged = range;
      }
  holds_got g got_front false e places = holds_stopped 10 log got

-- A whole line does to the reader what it does to the rules.
takes : (s : Seen) (l : Line) (log got : List ℕ) → Holds s (desk_of s) log got → most_lines ≤ length log → most_lines ≤ length got
    → Holds (next kind32 s (said l)) (take_line (desk_of s) l) (taken_log (desk_of s) l log) (taken_got (desk_of s) l got)
unfolding next take_line taken_log taken_got any.new_of calls.make
takes unbegun Fresh log got h room places = holds_stopped 9 log got
takes unbegun (Word k at) log got h room places = holds_stopped 9 log got
takes unbegun (Value Threshold v) log got h room places = holds_started v log got (in_range kind32 v) refl
takes unbegun (Value Log v) log got h room places = holds_stopped 9 log got
takes unbegun (Value Got v) log got h room places = holds_stopped 9 log got
takes unbegun Bad log got h room places = holds_stopped 9 log got
takes (logs T l) Fresh log got h room places = holds_stopped 9 log got
takes (logs T l) (Word k at) log got h room places = holds_stopped 9 log got
takes (logs T l) (Value Threshold v) log got h room places = holds_stopped 9 log got
takes (logs T l) (Value Log v) log got h room places =
    holds_logged T v l log got h.entries h.few h.ranged (ltb (length l) most_lines) refl room
takes (logs T l) (Value Got v) log got h room places = holds_got T v l log got h.entries h.few h.ranged [] refl true refl places
takes (logs T l) Bad log got h room places = holds_stopped 9 log got
takes (gots T l g) Fresh log got h room places = holds_stopped 9 log got
takes (gots T l g) (Word k at) log got h room places = holds_stopped 9 log got
takes (gots T l g) (Value Threshold v) log got h room places = holds_stopped 9 log got
takes (gots T l g) (Value Log v) log got h room places = holds_stopped 9 log got
takes (gots T l g) (Value Got v) log got h room places =
    holds_got T v l log got h.entries h.few h.ranged g h.arrived (ltb (length g) most_lines) refl places
takes (gots T l g) Bad log got h room places = holds_stopped 9 log got
takes (stopped n) Fresh log got h room places = holds_stopped n log got
takes (stopped n) (Word k at) log got h room places = holds_stopped n log got
takes (stopped n) (Value Threshold v) log got h room places = holds_stopped n log got
takes (stopped n) (Value Log v) log got h room places = holds_stopped n log got
takes (stopped n) (Value Got v) log got h room places = holds_stopped n log got
takes (stopped n) Bad log got h room places = holds_stopped n log got

-- ---- a byte, and any bytes

-- A byte ends the line, or goes on with it.
tied_byte : (s : State) (w : Standing) (b : ℕ) (ends : Bool) → Tied s w
    → Tied
    (cond ends (record { seen = next kind32 s.seen (parsed kind32 s.begun); begun = [] }) (record { seen = s.seen; begun = s.begun ++ (b ∷ []) }))
    (cond ends (line_taken w) (byte_taken w b))
tied_byte s w b true h =
    let says : said w.reading.line ≡ parsed kind32 s.begun = ap said h.line ∙ led_says s.begun in
    let same = rw h.lines.desk at h.lines in
    record {
      lines = rw (h.lines.desk, ← says) (takes s.seen w.reading.line w.log w.got same h.room h.got_room);
      line = refl;
      room = rw (taken_length w.reading.desk w.reading.line w.log) h.room;
      got_room = rw (taken_got_length w.reading.desk w.reading.line w.got) h.got_room;
    }
tied_byte s w b false h = record {
  lines = h.lines;
  line = ap (λ (l : Line). line_byte l b) h.line ∙ sym (led_more s.begun b);
  room = h.room;
  got_room = h.got_room;
}

-- Any bytes, one after the other.
tied_bytes : (s : State) (w : Standing) (bs : List ℕ) → Tied s w → Tied (rules.run kind32 s bs) (fed_of w bs)
tied_bytes s w [] h = h
tied_bytes s w (b ∷ bs) h = tied_bytes (rules.byte kind32 s b) (byte_of w b) bs (tied_byte s w b (eqb b LF) h)

-- Before the first byte.
pub tied_start : (log got : List ℕ) → most_lines ≤ length log → most_lines ≤ length got → Tied (state_after kind32 []) (standing start_of log got)
tied_start log got room places = record {
  lines = record { desk = refl; entries = refl; arrived = refl; few = zero-le; few_gots = zero-le; ranged = tt };
  line = refl;
  room = room;
  got_room = places;
}

-- A piece after the bytes before it.
tied_piece : (bs piece : List ℕ) (w : Standing) → Tied (state_after kind32 bs) w → Tied (state_after kind32 (bs ++ piece)) (fed_of w piece)
tied_piece bs piece w h =
    rw (foldl-append (rules.byte kind32) (record { seen = unbegun; begun = [] }) bs piece) (tied_bytes (state_after kind32 bs) w piece h)

-- ---- the call

-- Lists with a place for each line that may come pass the test.
pub enough_places_lem : (log got : List ℕ) → most_lines ≤ length log → most_lines ≤ length got → enough_places log got ≡ true
enough_places_lem log got room places = rw (le-leb most_lines (length log) room, le-leb most_lines (length got) places)

-- A reading that stands where the rules stand after some bytes.
module _ (bs : List ℕ) (r : Reading) (log got : List ℕ) (tied : Tied (state_after kind32 bs) (standing r log got)) where
  -- Feeding a piece goes on with the bytes before it.
  pub tied_feed : (piece : List ℕ)
      → Tied (state_after kind32 (bs ++ piece)) (standing (result_unwrap_or (feed_answer r log got piece) r) (feed_log r log got piece) (feed_got r log got piece))
  unfolding feed_answer feed_log feed_got
  tied_feed piece = rw (enough_places_lem log got tied.room tied.got_room) (tied_piece bs piece (standing r log got) tied)

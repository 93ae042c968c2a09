-- The end of the input comes to the rules' answer, whatever the pieces.
-- Assumes nothing.
use Prim.Native.Nat.{ℕ, ◌+◌, ◌-◌, ◌*◌, ◌≤◌}
use mathlib.Core.Path.{◌≡◌, refl, ap, sym, ◌∙◌}
use mathlib.Core.Bool.{Bool, true, false, cond, ◌&&◌}
use mathlib.Core.List.{List, [], ◌∷◌, foldl}
use native.Mathlib.Omega.{arith}
use lib.Dec.{eqb, leb, ltb}
use lib.IntN.{ℤ, pos, negsuc}
use lib.ListN.{length, get_or, take}
use borrow.Author.Tests.{le-leb, eq-eqb}
use Rattle.std.specs.Prelude.{Result}
use Rattle.std.specs.Result.{is_ok, result_unwrap_or}
use Rattle.rules.specs.Kind.{kind32}
use Rattle.rules.specs.Signed.{signed_count}
use Rattle.rules.specs.Calls.{given, fitting}
use Rattle.rules.specs.Sketch.{Sketch, WellFormed, subtract}
use Rattle.rules.specs.Calls as calls
use Rattle.desk_rules.specs.Lines.{greatest_number, is_digit}
use Rattle.desk_rules.specs.Desk.{most_lines, Seen, unbegun, logs, gots, stopped, closed, reported, listed_for, decided, outcome}
use Rattle.desk_rules.specs.Text.{printed, desk_answer}
use Rattle.rules.proofs.WellFormed.{subtract_well_formed}
use Rattle.desk_rules.proofs.Desk.{state_after, read_after}
use Rattle.desk_reader.specs.Sketches.{built, decode_of, decode_surplus_of}
use Rattle.modint.specs.Width.{width32}
use Rattle.power_sum.specs.Answers as any
use Rattle.power_sum.proofs.Struct.{view_built, built_well_formed}
use Rattle.desk_reader.specs.declared.bytes.Key.TheVariants.{Threshold, Log, Got}
use Rattle.desk_reader.specs.declared.bytes.Line.{Line}
use Rattle.desk_reader.specs.declared.bytes.Line.TheVariants.{Fresh, Word, Value, Bad}
use Rattle.desk_reader.specs.declared.lines.Phase.{Phase}
use Rattle.desk_reader.specs.declared.lines.Phase.TheVariants.{Logs, Gots}
use Rattle.desk_reader.specs.declared.lines.Desk.{Desk}
use Rattle.desk_reader.specs.declared.Reading.{Reading}
use Rattle.lent.specs.declared.refusal.Refusal.{Refusal}
use Rattle.desk_reader.specs.Reader.{word_of, first_byte, word_byte, first_digit, next_digit, line_byte, Standing, standing, reading, start_of}
use Rattle.desk_reader.specs.Reader.{feed_answer, feed_log, feed_got}
use Rattle.desk_reader.proofs.Parse.{led}
use Rattle.desk_reader.proofs.Meaning.{codes, InRange, codes_well_formed, codes_threshold, Holds, entries_few, enough_places_lem, Tied, tied_start, tied_feed}
use Rattle.desk_text.specs.Answer.{is_fresh, difference_of, listed_of, told_of, told_by, outcome_of, in_bounds, finish_of}

-- ---- a line begun is not fresh

-- Neither of two lines is fresh.
either_begun : (t : Bool) (x y : Line) → is_fresh x ≡ false → is_fresh y ≡ false → is_fresh (cond t x y) ≡ false
either_begun true x y p q = p
either_begun false x y p q = q

-- A line is not fresh after a byte.
byte_begun : (l : Line) (b : ℕ) → is_fresh (line_byte l b) ≡ false
unfolding line_byte first_byte word_byte first_digit next_digit
byte_begun Fresh b =
    either_begun (eqb b 116) (Word Threshold 1) _ refl (either_begun (eqb b 108) (Word Log 1) _ refl (either_begun (eqb b 103) (Word Got 1) Bad refl refl))
byte_begun (Word k at) b =
    either_begun (ltb at (length (word_of k))) (word_byte k at b) (first_digit k b)
    (either_begun (eqb b (get_or (word_of k) at 0)) (Word k (at + 1)) Bad refl refl)
    (either_begun (is_digit b) (Value k (b - 48)) Bad refl refl)
byte_begun (Value k v) b =
    either_begun (eqb v 0) Bad _ refl
    (either_begun (is_digit b && leb (v * 10 + (b - 48)) (greatest_number kind32)) (Value k (v * 10 + (b - 48))) Bad refl refl)
byte_begun Bad b = refl

-- Nor after any further bytes.
bytes_begun : (l : Line) (b : ℕ) (bs : List ℕ) → is_fresh (foldl line_byte l (b ∷ bs)) ≡ false
bytes_begun l b [] = byte_begun l b
bytes_begun l b (x ∷ bs) = bytes_begun (line_byte l b) x bs

-- ---- the calls on structs of well-formed sketches are the rules on the sketches

-- Subtracting, where the thresholds agree.
difference_built : (p : Phase) (n m : ℕ) (g o : Sketch) → WellFormed kind32 g → WellFormed kind32 o → g.threshold ≡ o.threshold
    → difference_of (record { phase = p; entries = n; gots = m; sent = built g; arrived = built o }) ≡ given (subtract kind32 g o)
unfolding difference_of calls.sub_assign
difference_built p n m g o w v e = rw (built_well_formed width32 g w, built_well_formed width32 o v, view_built width32 g w, view_built width32 o v, eq-eqb g.threshold o.threshold e)

-- Decoding.
decode_built : (g : Sketch) (log : List ℕ) (places : ℕ) → WellFormed kind32 g → decode_of (built g) log places ≡ calls.decode kind32 true g log places
unfolding any.decode_of
decode_built g log places w = rw (built_well_formed width32 g w, view_built width32 g w)

-- Decoding the surplus.
surplus_built : (g : Sketch) (got : List ℕ) (places : ℕ) → WellFormed kind32 g
    → decode_surplus_of (built g) got places ≡ calls.decode_surplus kind32 true g got places
unfolding any.decode_surplus_of
surplus_built g got places w = rw (built_well_formed width32 g w, view_built width32 g w)

-- ---- the end of the input

-- The lines of a good input, of which the first places of the lent lists hold the entries and the got codes.
module _ (T : ℕ) (l g log got : List ℕ) (range : InRange T) (front : take (length l) log ≡ l) (got_front : take (length g) got ≡ g)
    (few : length l ≤ most_lines) (few_gots : length g ≤ most_lines) where
  -- The sketch of the pieces that are missing, or surplus.
  abbrev lacking : Sketch
  lacking = subtract kind32 (codes T l) (codes T g)

  -- It is well formed.
  lacking_well_formed : WellFormed kind32 lacking
  lacking_well_formed = subtract_well_formed kind32 (codes T l) (codes T g) (codes_well_formed T l range) (codes_well_formed T g range)

  -- The desk with their sketches.
  abbrev desk : Phase → Desk
  desk p = record { phase = p; entries = length l; gots = length g; sent = built (codes T l); arrived = built (codes T g) }

  -- It is what subtracting comes to.
  subtracted : (p : Phase) → difference_of (desk p) ≡ given lacking
  subtracted p =
      difference_built p (length l) (length g) (codes T l) (codes T g) (codes_well_formed T l range) (codes_well_formed T g range)
      (codes_threshold T l ∙ sym (codes_threshold T g))

  -- Its threshold is the input's.
  lacking_threshold : lacking.threshold ≡ T
  unfolding subtract
  lacking_threshold = rw (codes_threshold T l, codes_threshold T g) (omega arith)

  -- The lent list has a place for each entry, and for each got code.
  listed : (z : ℤ) → listed_of z (built lacking) l g most_lines ≡ listed_for kind32 z l g lacking
  unfolding calls.decode calls.decode_surplus
  listed (pos n) =
      let all : leb (length l) (length l) ≡ true = le-leb (length l) (length l) (omega arith) in
      decode_built lacking l most_lines lacking_well_formed ∙ rw (le-leb (length l) most_lines few, all)
  listed (negsuc n) =
      let all : leb (length g) (length g) ≡ true = le-leb (length g) (length g) (omega arith) in
      surplus_built lacking g most_lines lacking_well_formed ∙ rw (le-leb (length g) most_lines few_gots, all)

  -- What the sketch tells is what the rules decide.
  tells : told_of (built lacking) l g ≡ decided kind32 T l g lacking
  unfolding decided
  tells =
      ap (reported lacking.threshold (signed_count lacking.count)) (listed (signed_count lacking.count))
      ∙ ap (λ (t : ℕ). reported t (signed_count lacking.count) (listed_for kind32 (signed_count lacking.count) l g lacking)) lacking_threshold

  -- The decision is the rules'.
  decides : (p : Phase) → told_by (difference_of (desk p)) (take (length l) log) (take (length g) got) ≡ decided kind32 T l g lacking
  decides p = rw (subtracted p, front, got_front) tells

-- What the reader comes to is what the rules come to.
ends : (s : Seen) (begun : List ℕ) (d : Desk) (log got : List ℕ) → Holds s d log got
    → outcome_of (reading d (led begun)) log got ≡ outcome kind32 (closed s begun)
unfolding outcome_of outcome closed
ends unbegun begun d log got h = rw h.desk
ends (logs T l) [] d log got h = rw h.desk (decides T l [] log got h.ranged h.entries h.arrived h.few h.few_gots Logs)
ends (logs T l) (b ∷ bs) d log got h = rw (h.desk, bytes_begun Fresh b bs)
ends (gots T l g) [] d log got h = rw h.desk (decides T l g log got h.ranged h.entries h.arrived h.few h.few_gots Gots)
ends (gots T l g) (b ∷ bs) d log got h = rw (h.desk, bytes_begun Fresh b bs)
ends (stopped n) begun d log got h = rw h.desk

-- So the text is the rules' answer.
text : (bs : List ℕ) (w : Standing) → Tied (state_after kind32 bs) w → printed (outcome_of w.reading w.log w.got) ≡ desk_answer kind32 bs
unfolding desk_answer
text bs w h =
    ap printed
    (rw h.line (ends (state_after kind32 bs).seen (state_after kind32 bs).begun w.reading.desk w.log w.got h.lines)
    ∙ ap (outcome kind32) (read_after kind32 bs))

-- ---- the calls

-- A reading that stands where the rules stand after some bytes.
module _ (bs : List ℕ) (r : Reading) (log got : List ℕ) (tied : Tied (state_after kind32 bs) (standing r log got)) where
  -- It and the lent lists are within the bounds.
  bounded : in_bounds r.desk log got ≡ true
  bounded =
      let few = entries_few (state_after kind32 bs).seen r.desk log got tied.lines in
      rw (
        le-leb most_lines (length log) tied.room,
        le-leb most_lines (length got) tied.got_room,
        le-leb r.desk.entries most_lines few.0,
        le-leb r.desk.gots most_lines few.1,
      )

  -- Once all bytes are fed, in whatever pieces, the text is the rules' answer to them.
  pub tied_finish : (room : ℕ) → finish_of r log got room ≡ fitting (desk_answer kind32 bs) room
  unfolding finish_of
  tied_finish room = rw bounded (ap (λ (t : List ℕ). fitting t room) (text bs (standing r log got) tied))

-- A whole input as one piece.
pub whole_input : (log got input log' got' : List ℕ) (r : Reading) (z : Result Reading Refusal) (room : ℕ) → most_lines ≤ length log → most_lines ≤ length got → r ≡ start_of
    → z ≡ feed_answer r log got input → log' ≡ feed_log r log got input → got' ≡ feed_got r log got input
    → finish_of (result_unwrap_or z r) log' got' room ≡ fitting (desk_answer kind32 input) room
whole_input log got input log' got' r z room places got_places e f g h =
    rw (f, g, h, e) (tied_finish input _ _ _ (tied_feed [] start_of log got (tied_start log got places got_places) input) room)

-- It is not refused.
pub whole_accepted : (log got input : List ℕ) (r : Reading) {z : Result Reading Refusal} → most_lines ≤ length log → most_lines ≤ length got
    → z ≡ feed_answer r log got input → is_ok z ≡ true
unfolding feed_answer
whole_accepted log got input r places got_places e = rw (e, enough_places_lem log got places got_places)

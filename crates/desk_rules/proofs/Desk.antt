-- The desk program's rules, byte by byte: a number read digit by digit, and an input read in any pieces, are what the lines say.
-- Assumes nothing.
use Prim.Native.Nat.{ℕ, ◌+◌, ◌-◌, ◌*◌, ◌^◌, ◌≤◌, ◌<◌}
use Prim.Native.String.{String}
use mathlib.Core.Path.{◌≡◌, refl, ap, ◌∙◌}
use mathlib.Core.Bool.{Bool, true, false, cond, ◌&&◌}
use mathlib.Core.List.{List, [], ◌∷◌, ◌++◌, append-nil, append_assoc, foldl}
use native.Mathlib.Nat.{pow-le-pow_right, le_trans}
use native.Mathlib.Omega.{arith}
use lib.Dec.{leb, eqb}
use lib.ListN.{length}
use borrow.Author.Tests.{le-leb, lt-leb, lt-ltb, le-ltb, eqb-true, leb-true, leb-false}
use Rattle.numbers.specs.Power.{power_within, power_mod}
use Rattle.rules.specs.Kind.{Kind, kind32}
use Rattle.rules.specs.Signed.{signed_count}
use Rattle.rules.specs.Sketch.{Sketch, nothing, each, fresh, insert, subtract, negate}
use Rattle.rules.specs.Decode as decoding
use Rattle.rules.specs.Decode.{newest_first, coefficients, evaluate, surplus}
use Rattle.rules.specs.Calls as calls
use Rattle.desk_rules.specs.Lines.{bytes_of, LF, Cut, in_front, cut, greatest_number, is_digit, all_digits, decimal_value, well_begun, Number, some, none}
use Rattle.desk_rules.specs.Lines.{number}
use Rattle.desk_rules.specs.Lines.{log, got, keyed, parsed}
use Rattle.desk_rules.specs.Desk.{most_lines, Seen, unbegun, logs, gots, stopped, next, all_lines, closed, read_lines, decided, outcome}
use Rattle.desk_rules.specs.Text.{decimal_within, decimal, line, signed_line, lines, printed, desk_answer}
use Rattle.rules.proofs.Each.{and_second}

-- ---- a number, digit by digit

-- Further digits behind those that say n: the first that is none, or that takes the number too far, spoils it.
unfoldable pub further : Kind → ℕ → List ℕ → Number
further K n [] = some n
further K n (b ∷ bs) = cond (is_digit b && leb (n * 10 + (b - 48)) (greatest_number K)) (further K (n * 10 + (b - 48)) bs) none

-- Nothing follows the digit 0.
unfoldable pub alone : List ℕ → Number
alone [] = some 0
alone (b ∷ bs) = none

-- Digits make a number no smaller.
grows : (n : ℕ) (bs : List ℕ) → n ≤ decimal_value n bs
unfolding decimal_value
grows n [] = omega arith
grows n (b ∷ bs) = le_trans (omega arith) (grows (n * 10 + (b - 48)) bs)

-- The first digit.
first_value : (b : ℕ) (bs : List ℕ) → decimal_value 0 (b ∷ bs) ≡ decimal_value (b - 48) bs
unfolding decimal_value
first_value b bs =
    let behind_nothing : 0 * 10 + (b - 48) ≡ b - 48 = omega arith in
    ap (λ (n : ℕ). decimal_value n bs) behind_nothing

-- A test and false come to false.
and_no : (t : Bool) → t && false ≡ false
and_no true = refl
and_no false = refl

module _ (K : Kind) where
  -- All digits at once.
  abbrev at_once : ℕ → List ℕ → Number
  at_once n bs = cond (all_digits bs && leb (decimal_value n bs) (greatest_number K)) (some (decimal_value n bs)) none

  -- The first of further digits, by its two tests.
  first_further : (m : ℕ) (bs : List ℕ) (digit within : Bool) → leb m (greatest_number K) ≡ within → (m ≤ greatest_number K → further K m bs ≡ at_once m bs)
      → cond (digit && within) (further K m bs) none
      ≡ cond ((digit && all_digits bs) && leb (decimal_value m bs) (greatest_number K)) (some (decimal_value m bs)) none
  first_further m bs false within e rest = refl
  first_further m bs true true e rest = rest (leb-true m (greatest_number K) e)
  first_further m bs true false e rest =
      let far : greatest_number K < decimal_value m bs = omega (arith, leb-false m (greatest_number K) e, grows m bs) in
      rw (lt-leb (decimal_value m bs) (greatest_number K) far, and_no (all_digits bs))

  -- Further digits read one by one are what they are all at once.
  further_at_once : (n : ℕ) (bs : List ℕ) → n ≤ greatest_number K → further K n bs ≡ at_once n bs
  unfolding further all_digits decimal_value
  further_at_once n [] h = rw (le-leb n (greatest_number K) h)
  further_at_once n (b ∷ bs) h =
      let m = n * 10 + (b - 48) in
      first_further m bs (is_digit b) (leb m (greatest_number K)) refl (further_at_once m bs)

  -- The greatest number has more than one digit.
  nine_fits : 9 ≤ greatest_number K
  nine_fits =
      let more : 256 ^ 1 ≤ 256 ^ K.code_bytes = pow-le-pow_right {n = 256} (omega arith) K.some_byte in
      omega arith

  -- A number that begins with the digit 0 is that digit alone.
  nought_alone : (bs : List ℕ) → number K (48 ∷ bs) ≡ alone bs
  unfolding number well_begun all_digits decimal_value alone
  nought_alone [] = rw (le-leb 0 (greatest_number K) (omega arith))
  nought_alone (d ∷ bs) = refl

  -- Digits that begin with another digit have no leading zero.
  well_begun_lem : (b : ℕ) (bs : List ℕ) → eqb b 48 ≡ false → well_begun (b ∷ bs) ≡ true
  unfolding well_begun
  well_begun_lem b [] e = refl
  well_begun_lem b (d ∷ bs) e = rw e

  -- A number is the digit 0 alone, or another digit and then further ones.
  pub number_by_digits : (b : ℕ) (bs : List ℕ) (nought digit : Bool) → eqb b 48 ≡ nought → is_digit b ≡ digit
      → number K (b ∷ bs) ≡ cond nought (alone bs) (cond digit (further K (b - 48) bs) none)
  unfolding number all_digits
  number_by_digits b bs true digit e d = rw (eqb-true b 48 e) (nought_alone bs)
  number_by_digits b bs false false e d = rw (well_begun_lem b bs e, d)
  number_by_digits b bs false true e d =
      let small : b - 48 ≤ greatest_number K = omega (arith, nine_fits, leb-true b 57 (and_second (leb 48 b) (leb b 57) d)) in
      rw (well_begun_lem b bs e, d, first_value b bs, further_at_once (b - 48) bs small)

-- ---- an input, byte by byte

-- Where the reading of an input stands after some bytes: what the whole lines gave, and the line begun.
pub record State : Type 0 where
  pub seen : Seen
  pub begun : List ℕ

module _ (K : Kind) where
  -- One byte more: LF ends the line begun, any other byte goes on with it.
  abbrev pub byte : State → ℕ → State
  byte s b =
      cond (eqb b LF) (record { seen = next K s.seen (parsed K s.begun); begun = [] }) (record { seen = s.seen; begun = s.begun ++ (b ∷ []) })

  -- The state after some bytes more.
  abbrev pub run : State → List ℕ → State
  run = foldl byte

  -- The state after some bytes from the beginning of an input.
  abbrev pub state_after : List ℕ → State
  state_after = run (record { seen = unbegun; begun = [] })

  -- The line begun, in front of the lines still to read.
  abbrev read_from : Seen → List ℕ → List (List ℕ) → List ℕ → Seen
  read_from s begun [] rest = closed s (begun ++ rest)
  read_from s begun (l ∷ ls) rest = closed (all_lines K s ((begun ++ l) ∷ ls)) rest

  -- With no line begun, the lines are read as they stand.
  from_none : (s : Seen) (ls : List (List ℕ)) (rest : List ℕ) → read_from s [] ls rest ≡ closed (all_lines K s ls) rest
  from_none s [] rest = refl
  from_none s (l ∷ ls) rest = refl

  -- A byte behind the line begun is one in front of the lines still to read.
  from_front : (s : Seen) (begun : List ℕ) (b : ℕ) (ls : List (List ℕ)) (rest : List ℕ)
      → read_from s (begun ++ (b ∷ [])) ls rest ≡ read_from s begun (in_front b ls rest).whole (in_front b ls rest).rest
  unfolding in_front
  from_front s begun b [] rest = rw append_assoc
  from_front s begun b (l ∷ ls) rest = rw append_assoc

  -- Reading some bytes one by one gives what their lines give behind the line begun.
  abbrev Same : List ℕ → Type 0
  Same bs = (s : State) → closed (run s bs).seen (run s bs).begun ≡ read_from s.seen s.begun (cut bs).whole (cut bs).rest

  -- So it is with one byte in front of them, which ends the line or goes on with it.
  same_after : (ends : Bool) (b : ℕ) (bs : List ℕ) (s : State) → Same bs
      → closed (run (cond ends (record { seen = next K s.seen (parsed K s.begun); begun = [] })
      (record { seen = s.seen; begun = s.begun ++ (b ∷ []) })) bs).seen
      (run (cond ends (record { seen = next K s.seen (parsed K s.begun); begun = [] })
      (record { seen = s.seen; begun = s.begun ++ (b ∷ []) })) bs).begun
      ≡ read_from s.seen s.begun
      (cond {A = Cut} ends (record { whole = [] ∷ (cut bs).whole; rest = (cut bs).rest }) (in_front b (cut bs).whole (cut bs).rest)).whole
      (cond {A = Cut} ends (record { whole = [] ∷ (cut bs).whole; rest = (cut bs).rest }) (in_front b (cut bs).whole (cut bs).rest)).rest
  same_after true b bs s rest =
      let t : State = record { seen = next K s.seen (parsed K s.begun); begun = [] } in
      rest t ∙ from_none t.seen (cut bs).whole (cut bs).rest ∙ rw append-nil
  same_after false b bs s rest =
      rest (record { seen = s.seen; begun = s.begun ++ (b ∷ []) }) ∙ from_front s.seen s.begun b (cut bs).whole (cut bs).rest

  -- So it is for any bytes.
  same : (bs : List ℕ) → Same bs
  unfolding cut
  same [] s = rw append-nil
  same (b ∷ bs) s = same_after (eqb b LF) b bs s (same bs)

  -- Reading byte by byte gives what the lines give.
  pub read_after : (bs : List ℕ) → closed (state_after bs).seen (state_after bs).begun ≡ read_lines K (cut bs)
  unfolding read_lines
  read_after bs = same bs (record { seen = unbegun; begun = [] }) ∙ from_none unbegun (cut bs).whole (cut bs).rest

-- ---- what the rules compute

-- What the program writes for an input, both as text.
abbrev Gives : String → String → Type 0
Gives input output = desk_answer kind32 (bytes_of input) ≡ bytes_of output

-- The page's example; the threshold 0, with LF and without; an empty input; more lacking than the threshold allows; piece 2 before piece 10; repeats
-- in the log; more entries listed than are missing; a leading zero, and one behind a line that decides already; a number above the greatest code; a second
-- threshold line; behind got lines a log line, and bytes without LF; a surplus, as it stands among the got lines, repeats kept; as many surplus as the
-- threshold allows, with no log line, and one more; and a bag that lacks a piece and has two others, of which none is told.
pub examples : Gives "threshold=3\nlog=1\nlog=2\nlog=10\ngot=1\ngot=10\n" "refusal=0\nthreshold=3\ncount=1\nfound=1\nmissing=2\n"
    × Gives "threshold=0\n" "refusal=1\n"
    × Gives "threshold=0" "refusal=9\n"
    × Gives "" "refusal=9\n"
    × Gives "threshold=1\nlog=7\nlog=9\n" "refusal=4\n"
    × Gives "threshold=2\nlog=2\nlog=10\n" "refusal=0\nthreshold=2\ncount=2\nfound=2\nmissing=2\nmissing=10\n"
    × Gives "threshold=2\nlog=9\nlog=7\nlog=9\ngot=7\n" "refusal=0\nthreshold=2\ncount=2\nfound=2\nmissing=9\nmissing=9\n"
    × Gives "threshold=1\nlog=9\nlog=7\nlog=9\ngot=7\ngot=9\n" "refusal=0\nthreshold=1\ncount=1\nfound=2\nmissing=9\nmissing=9\n"
    × Gives "threshold=1\nlog=01\n" "refusal=9\n"
    × Gives "threshold=0\nlog=01\n" "refusal=1\n"
    × Gives "threshold=1\nlog=4294967296\n" "refusal=9\n"
    × Gives "threshold=1\nthreshold=1\n" "refusal=9\n"
    × Gives "threshold=1\nlog=9\ngot=9\nlog=7\n" "refusal=9\n"
    × Gives "threshold=1\nlog=9\ngot=9\ngot=9" "refusal=9\n"
    × Gives "threshold=1\nlog=9\nlog=7\ngot=9\ngot=7\ngot=9\n" "refusal=0\nthreshold=1\ncount=-1\nfound=2\nsurplus=9\nsurplus=9\n"
    × Gives "threshold=2\ngot=10\ngot=2\n" "refusal=0\nthreshold=2\ncount=-2\nfound=2\nsurplus=10\nsurplus=2\n"
    × Gives "threshold=1\ngot=10\ngot=2\n" "refusal=4\n"
    × Gives "threshold=2\nlog=1\ngot=7\ngot=9\n" "refusal=0\nthreshold=2\ncount=-1\nfound=0\n"
unfolding desk_answer printed lines line signed_line decimal decimal_within outcome decided read_lines closed next cut in_front parsed keyed number well_begun
    all_digits decimal_value calls.decode calls.decode_surplus decoding.decode surplus evaluate coefficients newest_first signed_count negate subtract insert fresh
    each power_mod power_within
examples = (refl, refl, refl, refl, refl, refl, refl, refl, refl, refl, refl, refl, refl, refl, refl, refl, refl, refl)

-- After 8,191 log lines the next is taken.
pub last_log_line : (K : Kind) (T c : ℕ) (l : List ℕ) → length l ≡ 8191 → next K (logs T l) (log c) ≡ logs T (l ++ (c ∷ []))
unfolding next
last_log_line K T c l e = rw (lt-ltb (length l) most_lines (omega arith))

-- After 8,192 log lines the next is refused by 10.
pub one_log_line_more : (K : Kind) (T c : ℕ) (l : List ℕ) → length l ≡ 8192 → next K (logs T l) (log c) ≡ stopped 10
unfolding next
one_log_line_more K T c l e = rw (le-ltb (length l) most_lines (omega arith))

-- After 8,191 got lines the next is taken.
pub last_got_line : (K : Kind) (T c : ℕ) (l g : List ℕ) → length g ≡ 8191 → next K (gots T l g) (got c) ≡ gots T l (g ++ (c ∷ []))
unfolding next
last_got_line K T c l g e = rw (lt-ltb (length g) most_lines (omega arith))

-- After 8,192 got lines the next is refused by 10.
pub one_got_line_more : (K : Kind) (T c : ℕ) (l g : List ℕ) → length g ≡ 8192 → next K (gots T l g) (got c) ≡ stopped 10
unfolding next
one_got_line_more K T c l g e = rw (le-ltb (length g) most_lines (omega arith))

-- A subtraction keeps no last code.
pub subtraction_keeps_no_last : (K : Kind) (s o : Sketch) → (subtract K s o).last ≡ nothing
unfolding subtract
subtraction_keeps_no_last K s o = refl

-- The lines of the desk program's input: the bytes cut at each LF, and what one line says.
-- Assumes nothing.
use Prim.Native.Char.{code}
use Rattle.std.specs.Prelude.{ℕ, ◌+◌, ◌-◌, ◌*◌, ◌^◌, Bool, true, false, cond, not, ◌&&◌, List, [], ◌∷◌, leb, eqb}
use Prim.Native.String.{String, [] as no_more, ◌∷◌ as ◌then◌}
use Rattle.rules.specs.Kind.{Kind}

-- ---- bytes

-- The bytes of a text in ASCII.
abbrev pub bytes_of : String → List ℕ
bytes_of no_more = []
bytes_of (c then cs) = code c ∷ bytes_of cs

-- The byte that ends a line.
abbrev pub LF : ℕ
LF = 10

-- The words in front of a line's number.
abbrev pub threshold_word : List ℕ
threshold_word = bytes_of "threshold="

-- The word of a log line.
abbrev pub log_word : List ℕ
log_word = bytes_of "log="

-- The word of a got line.
abbrev pub got_word : List ℕ
got_word = bytes_of "got="

-- ---- lines

-- An input cut at each LF: its whole lines, without their LF, and what stands behind the last LF.
pub record Cut : Type 0 where
  pub whole : List (List ℕ)
  pub rest : List ℕ

-- One byte more in front of the first line, which is the rest where there is no whole one.
unfoldable pub in_front : ℕ → List (List ℕ) → List ℕ → Cut
in_front b [] rest = record { whole = []; rest = b ∷ rest }
in_front b (l ∷ ls) rest = record { whole = (b ∷ l) ∷ ls; rest = rest }

-- An input, cut at each LF.
unfoldable pub cut : List ℕ → Cut
cut [] = record { whole = []; rest = [] }
cut (b ∷ bs) = cond (eqb b LF) (record { whole = [] ∷ (cut bs).whole; rest = (cut bs).rest }) (in_front b (cut bs).whole (cut bs).rest)

-- ---- numbers

-- The greatest number that a line may give: the greatest code.
abbrev pub greatest_number : Kind → ℕ
greatest_number K = 256 ^ K.code_bytes - 1

-- Whether a byte is a decimal digit.
abbrev pub is_digit : ℕ → Bool
is_digit b = leb 48 b && leb b 57

-- Whether every byte is a decimal digit, true for none.
unfoldable pub all_digits : List ℕ → Bool
all_digits [] = true
all_digits (b ∷ bs) = is_digit b && all_digits bs

-- The number that decimal digits say, behind digits that say n.
unfoldable pub decimal_value : ℕ → List ℕ → ℕ
decimal_value n [] = n
decimal_value n (b ∷ bs) = decimal_value (n * 10 + (b - 48)) bs

-- There is one digit or more, and none stands behind a leading zero.
unfoldable pub well_begun : List ℕ → Bool
well_begun [] = false
well_begun (b ∷ []) = true
well_begun (b ∷ (d ∷ bs)) = not (eqb b 48)

-- A number, or no number.
pub data Number : Type 0 where
  some : ℕ → Number
  none : Number

-- Decimal, of one digit or more, without leading zeros, at most the greatest number.
unfoldable pub number : Kind → List ℕ → Number
number K bs = cond (well_begun bs && (all_digits bs && leb (decimal_value 0 bs) (greatest_number K))) (some (decimal_value 0 bs)) none

-- ---- what a line says

-- A threshold, a log entry, a got code, or nothing that the page allows.
pub data Line : Type 0 where
  threshold : ℕ → Line
  log : ℕ → Line
  got : ℕ → Line
  bad : Line

-- The line of a word with its number; bad where there is no number.
abbrev pub valued : (ℕ → Line) → Number → Line
valued key (some n) = key n
valued key none = bad

-- A word and then a number; any other line is bad.
unfoldable pub keyed : Kind → (ℕ → Line) → List ℕ → List ℕ → Line
keyed K key [] bs = valued key (number K bs)
keyed K key (w ∷ ws) [] = bad
keyed K key (w ∷ ws) (b ∷ bs) = cond (eqb b w) (keyed K key ws bs) bad

-- The first of two readings, and the second where the first is bad.
abbrev pub or_else : Line → Line → Line
or_else (threshold n) other = threshold n
or_else (log n) other = log n
or_else (got n) other = got n
or_else bad other = other

-- What a line says: a threshold, a log entry or a got code by its word; any other line is bad.
unfoldable pub parsed : Kind → List ℕ → Line
parsed K bs = or_else (keyed K threshold threshold_word bs) (or_else (keyed K log log_word bs) (keyed K got got_word bs))

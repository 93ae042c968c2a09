-- What the lines of the desk program's input amount to: the first bad line decides, and after good lines the log is decoded, or the got codes where they
-- are more.
-- Assumes nothing.
use Rattle.std.specs.Prelude.{ℕ, true, cond, ltb, ℤ, pos, negsuc, length}
use mathlib.Core.List.{List, [], ◌∷◌, ◌++◌, foldl}
use Rattle.rules.specs.Kind.{Kind}
use Rattle.rules.specs.Signed.{signed_count}
use Rattle.rules.specs.Sketch.{Sketch, in_range, fresh, insert, subtract}
use Rattle.rules.specs.Calls as calls
use Rattle.rules.specs.Calls.{Outcome, refused, given}
use Rattle.desk_rules.specs.Lines.{Line, threshold, log, got, bad, parsed, Cut}

-- ---- the lines, one after the other

-- How many log lines an input may have, and how many got lines: the next is refused by 10.
abbrev pub most_lines : ℕ
most_lines = 8192

-- What the lines so far have given: none yet; a threshold and log entries; those and got codes; or the number of the refusal by the first bad line.
pub data Seen : Type 0 where
  unbegun : Seen
  logs : ℕ → List ℕ → Seen
  gots : ℕ → List ℕ → List ℕ → Seen
  stopped : ℕ → Seen

-- One line more. One threshold line comes first, then log lines, then got lines; any other line is refused by 9.
unfoldable pub next : Kind → Seen → Line → Seen
next K unbegun (threshold T) = cond (in_range K T) (logs T []) (stopped 1)
next K unbegun (log c) = stopped 9
next K unbegun (got c) = stopped 9
next K unbegun bad = stopped 9
next K (logs T l) (threshold c) = stopped 9
next K (logs T l) (log c) = cond (ltb (length l) most_lines) (logs T (l ++ (c ∷ []))) (stopped 10)
next K (logs T l) (got c) = gots T l (c ∷ [])
next K (logs T l) bad = stopped 9
next K (gots T l g) (threshold c) = stopped 9
next K (gots T l g) (log c) = stopped 9
next K (gots T l g) (got c) = cond (ltb (length g) most_lines) (gots T l (g ++ (c ∷ []))) (stopped 10)
next K (gots T l g) bad = stopped 9
next K (stopped n) line = stopped n

-- What lines give, one after the other, behind those before.
abbrev pub all_lines : Kind → Seen → List (List ℕ) → Seen
all_lines K = foldl (λ (s : Seen) (line : List ℕ). next K s (parsed K line))

-- The end of the input: a last line without LF is refused by 9, and so is an input without a line.
unfoldable pub closed : Seen → List ℕ → Seen
closed unbegun rest = stopped 9
closed (logs T l) [] = logs T l
closed (logs T l) (b ∷ bs) = stopped 9
closed (gots T l g) [] = gots T l g
closed (gots T l g) (b ∷ bs) = stopped 9
closed (stopped n) rest = stopped n

-- What a whole input gives: its whole lines, and then its end.
unfoldable pub read_lines : Kind → Cut → Seen
read_lines K t = closed (all_lines K unbegun t.whole) t.rest

-- ---- the answer

-- The sketch of a list of codes: each inserted in turn into a fresh one.
abbrev pub sketch_of_codes : Kind → ℕ → List ℕ → Sketch
sketch_of_codes K T = foldl (insert K) (fresh T)

-- What is told of an input that is not refused: the threshold, the signed count, and the entries found, which are missing or, for a negative count, surplus.
pub record Report : Type 0 where
  pub threshold : ℕ
  pub count : ℤ
  pub found : List ℕ

-- The report of the entries found, or the refusal.
abbrev pub reported : ℕ → ℤ → Outcome (List ℕ) → Outcome Report
reported T count (refused n) = refused n
reported T count (given found) = given (record { threshold = T; count = count; found = found })

-- What is listed with a signed count: of a negative one the surplus among the got codes, of any other what is missing of the log; each into as many places
-- as there are entries.
abbrev pub listed_for : Kind → ℤ → List ℕ → List ℕ → Sketch → Outcome (List ℕ)
listed_for K (pos n) l g s = calls.decode K true s l (length l)
listed_for K (negsuc n) l g s = calls.decode_surplus K true s g (length g)

-- The log or the got codes are decoded by the sketch of the log lines less that of the got lines; 4 where the size of the signed count is above the
-- threshold.
unfoldable pub decided : Kind → ℕ → List ℕ → List ℕ → Sketch → Outcome Report
decided K T l g s = reported T (signed_count s.count) (listed_for K (signed_count s.count) l g s)

-- What an input comes to: the refusal by its first bad line, or what decoding gives.
unfoldable pub outcome : Kind → Seen → Outcome Report
outcome K unbegun = refused 9
outcome K (logs T l) = decided K T l [] (subtract K (sketch_of_codes K T l) (sketch_of_codes K T []))
outcome K (gots T l g) = decided K T l g (subtract K (sketch_of_codes K T l) (sketch_of_codes K T g))
outcome K (stopped n) = refused n

-- A buffer of 262,144 bytes holds the desk program's answer to any input, at any kind whose codes have at most eight bytes.
-- Assumes nothing.
use Prim.Native.Nat.{ℕ, suc, ◌*◌, ◌^◌, ◌≤◌, ◌<◌, zero-le}
use mathlib.Core.Path.{◌≡◌, refl}
use mathlib.Core.Bool.{Bool, true, false, cond, ◌&&◌}
use mathlib.Core.List.{List, [], ◌∷◌, ◌++◌}
use native.Mathlib.Nat.{mod-lt}
use native.Mathlib.Omega.{arith}
use lib.Dec.{leb, ltb, eqb}
use lib.IntN.{ℤ, pos, negsuc, nat_abs}
use lib.ListN.{length, length-append}
use borrow.Author.Tests.{leb-true, ltb-true, ltb-false}
use Rattle.newton.specs.Members.{AllBelow}
use Rattle.newton.proofs.Permutation.{all_below_append}
use Rattle.rules.specs.Kind.{Kind, counts, half_counts}
use Rattle.rules.specs.Signed.{signed_count}
use Rattle.rules.specs.Sketch.{Sketch, in_range, subtract, negate, surplus_in}
use Rattle.rules.specs.Decode as decoding
use Rattle.rules.specs.Decode.{evaluate, coefficients, keep}
use Rattle.rules.specs.Calls as calls
use Rattle.rules.specs.Calls.{Outcome, refused, given, unless}
use Rattle.desk_rules.specs.Lines.{Line, threshold, log, got, bad, some, none, well_begun, all_digits, decimal_value, greatest_number, number, valued, keyed}
use Rattle.desk_rules.specs.Lines.{or_else, threshold_word, log_word, got_word, parsed, cut}
use Rattle.desk_rules.specs.Desk.{most_lines, Seen, unbegun, logs, gots, stopped, next, all_lines, closed, read_lines, sketch_of_codes, Report, reported}
use Rattle.desk_rules.specs.Desk.{listed_for, decided, outcome}
use Rattle.desk_rules.specs.Text.{refusal_word, count_word, found_word, missing_word, surplus_word, entry_word, lines, printed, desk_answer}
use Rattle.rules.proofs.Each.{and_second}
use Rattle.rules.proofs.Negation.{signed_itself, signed_negative}
use Rattle.desk_rules.proofs.Text.{line_short, signed_short, lines_short}

-- A number that is printed in at most twenty digits.
abbrev Small : ℕ → Type 0
Small n = n < 10 ^ 20

-- Numbers that are each printed so.
abbrev AllSmall : List ℕ → Type 0
AllSmall = AllBelow (10 ^ 20)

-- ---- how many entries are listed

-- What passes a test is no more than there is.
keep_fewer : (test : ℕ → Bool) (l : List ℕ) → length (keep test l) ≤ length l
keep_fewer test [] = zero-le
keep_fewer test (c ∷ l) = by_test (test c) (keep_fewer test l)
  where
    by_test : (b : Bool) → length (keep test l) ≤ length l → length (cond b (c ∷ keep test l) (keep test l)) ≤ suc (length l)
    by_test true h = omega arith
    by_test false h = omega arith

-- A sketch lists no more than a log has.
pub decode_fewer : (K : Kind) (s : Sketch) (l : List ℕ) → length (decoding.decode K s l) ≤ length l
unfolding decoding.decode
decode_fewer K s l = by_count (eqb s.count 0)
  where
    by_count : (none : Bool) → length (cond none [] (keep (λ c. eqb (evaluate K (coefficients K s.sums s.count) c) 0) l)) ≤ length l
    by_count true = zero-le
    by_count false = keep_fewer (λ c. eqb (evaluate K (coefficients K s.sums s.count) c) 0) l

-- Nor does it list more got codes as surplus than there are.
pub surplus_fewer : (K : Kind) (s : Sketch) (g : List ℕ) → length (decoding.surplus K s g) ≤ length g
unfolding decoding.surplus
surplus_fewer K s g = by_sign (eqb (surplus_in s) 0)
  where
    by_sign : (none : Bool) → length (cond none [] (decoding.decode K (negate K s) g)) ≤ length g
    by_sign true = zero-le
    by_sign false = decode_fewer K (negate K s) g

-- ---- the size of a signed count

-- It is no greater than there are counts.
signed_small : (n : ℕ) → n < counts → nat_abs (signed_count n) ≤ counts
signed_small n u = by_half (ltb n half_counts) refl
  where
    by_half : (small : Bool) → ltb n half_counts ≡ small → nat_abs (signed_count n) ≤ counts
    by_half true e = rw (signed_itself n (ltb-true n half_counts e)) (omega arith)
    by_half false e = rw (signed_negative n (ltb-false n half_counts e) u) (omega arith)

-- ---- what a line says

-- A line that says a number says one of few digits.
abbrev Says : Line → Type 0
Says (threshold n) = Small n
Says (log n) = Small n
Says (got n) = Small n
Says bad = Unit {0}

-- So does the first of two readings that is not bad.
or_says : (l other : Line) → Says l → Says other → Says (or_else l other)
or_says (threshold n) other s o = s
or_says (log n) other s o = s
or_says (got n) other s o = s
or_says bad other s o = o

-- ---- what the lines amount to

-- What the lines so far have given is of few digits, and of no more lines of a kind than there may be.
abbrev Holds : Seen → Type 0
Holds unbegun = Unit {0}
Holds (logs T l) = Small T × AllSmall l × (length l ≤ most_lines)
Holds (gots T l g) = Small T × AllSmall l × (length l ≤ most_lines) × AllSmall g × (length g ≤ most_lines)
Holds (stopped n) = Small n

-- A threshold line keeps that so.
holds_started : (ok : Bool) (T : ℕ) → Small T → Holds (cond ok (logs T []) (stopped 1))
holds_started true T s = (s, tt, zero-le)
holds_started false T s = omega arith

-- So does a log line, with room for it or without.
holds_logged : (room : Bool) (T c : ℕ) (l : List ℕ) → ltb (length l) most_lines ≡ room → Small c → Holds (logs T l)
    → Holds (cond room (logs T (l ++ (c ∷ []))) (stopped 10))
holds_logged true T c l e s h =
    (h.0, all_below_append (10 ^ 20) l (c ∷ []) h.1 (s, tt), rw length-append (omega (arith, ltb-true (length l) most_lines e)))
holds_logged false T c l e s h = omega arith

-- So does a got line, with room for it or without.
holds_got : (room : Bool) (T c : ℕ) (l g : List ℕ) → ltb (length g) most_lines ≡ room → Small c → Holds (gots T l g)
    → Holds (cond room (gots T l (g ++ (c ∷ []))) (stopped 10))
holds_got true T c l g e s h =
    (h.0, h.1, h.2, all_below_append (10 ^ 20) g (c ∷ []) h.3 (s, tt), rw length-append (omega (arith, ltb-true (length g) most_lines e)))
holds_got false T c l g e s h = omega arith

module _ (K : Kind) (narrow : 256 ^ K.code_bytes ≤ 10 ^ 20) where
  -- A number behind a word is at most the greatest code, so of few digits.
  says_valued : (key : ℕ → Line) → ((n : ℕ) → Small n → Says (key n)) → (bs : List ℕ) → Says (valued key (number K bs))
  unfolding number
  says_valued key small bs = by_test (well_begun bs && (all_digits bs && leb (decimal_value 0 bs) (greatest_number K))) refl
    where
      by_test : (ok : Bool) → well_begun bs && (all_digits bs && leb (decimal_value 0 bs) (greatest_number K)) ≡ ok
          → Says (valued key (cond ok (some (decimal_value 0 bs)) none))
      by_test true e =
          let within = leb-true (decimal_value 0 bs) (greatest_number K) (and_second (all_digits bs) _ (and_second (well_begun bs) _ e)) in
          small (decimal_value 0 bs) (omega arith)
      by_test false e = tt

  -- So is one behind a word that is read byte by byte.
  says_keyed : (key : ℕ → Line) → ((n : ℕ) → Small n → Says (key n)) → (word bs : List ℕ) → Says (keyed K key word bs)
  unfolding keyed
  says_keyed key small [] bs = says_valued key small bs
  says_keyed key small (w ∷ ws) [] = tt
  says_keyed key small (w ∷ ws) (b ∷ bs) = by_byte (eqb b w) (says_keyed key small ws bs)
    where
      by_byte : (same : Bool) → Says (keyed K key ws bs) → Says (cond same (keyed K key ws bs) bad)
      by_byte true s = s
      by_byte false s = tt

  -- So is whatever a line says.
  says_parsed : (bs : List ℕ) → Says (parsed K bs)
  unfolding parsed
  says_parsed bs =
      or_says (keyed K threshold threshold_word bs) (or_else (keyed K log log_word bs) (keyed K got got_word bs)) (says_keyed threshold (λ n s. s) threshold_word bs)
      (or_says (keyed K log log_word bs) (keyed K got got_word bs) (says_keyed log (λ n s. s) log_word bs) (says_keyed got (λ n s. s) got_word bs))

  -- One line more keeps what was given of few digits.
  holds_next : (s : Seen) (l : Line) → Holds s → Says l → Holds (next K s l)
  unfolding next
  holds_next unbegun (threshold T) h s = holds_started (in_range K T) T s
  holds_next unbegun (log c) h s = omega arith
  holds_next unbegun (got c) h s = omega arith
  holds_next unbegun bad h s = omega arith
  holds_next (logs T l) (threshold c) h s = omega arith
  holds_next (logs T l) (log c) h s = holds_logged (ltb (length l) most_lines) T c l refl s h
  holds_next (logs T l) (got c) h s = (h.0, h.1, h.2, (s, tt), omega arith)
  holds_next (logs T l) bad h s = omega arith
  holds_next (gots T l g) (threshold c) h s = omega arith
  holds_next (gots T l g) (log c) h s = omega arith
  holds_next (gots T l g) (got c) h s = holds_got (ltb (length g) most_lines) T c l g refl s h
  holds_next (gots T l g) bad h s = omega arith
  holds_next (stopped n) line h s = h

  -- So do any lines.
  holds_lines : (s : Seen) (ls : List (List ℕ)) → Holds s → Holds (all_lines K s ls)
  holds_lines s [] h = h
  holds_lines s (l ∷ ls) h = holds_lines (next K s (parsed K l)) ls (holds_next s (parsed K l) h (says_parsed l))

  -- So does the end of the input.
  holds_closed : (s : Seen) (rest : List ℕ) → Holds s → Holds (closed s rest)
  unfolding closed
  holds_closed unbegun rest h = omega arith
  holds_closed (logs T l) [] h = h
  holds_closed (logs T l) (b ∷ bs) h = omega arith
  holds_closed (gots T l g) [] h = h
  holds_closed (gots T l g) (b ∷ bs) h = omega arith
  holds_closed (stopped n) rest h = h

  -- ---- the answer

  -- What passes a test of numbers of few digits has few digits.
  keep_small : (test : ℕ → Bool) (l : List ℕ) → AllSmall l → AllSmall (keep test l)
  keep_small test [] small = tt
  keep_small test (c ∷ l) small = by_test (test c) (keep_small test l small.1)
    where
      by_test : (b : Bool) → AllSmall (keep test l) → AllSmall (cond b (c ∷ keep test l) (keep test l))
      by_test true h = (small.0, h)
      by_test false h = h

  -- So has what a sketch lists of a log.
  decode_small : (s : Sketch) (l : List ℕ) → AllSmall l → AllSmall (decoding.decode K s l)
  unfolding decoding.decode
  decode_small s l small = by_count (eqb s.count 0)
    where
      by_count : (none : Bool) → AllSmall (cond none [] (keep (λ c. eqb (evaluate K (coefficients K s.sums s.count) c) 0) l))
      by_count true = tt
      by_count false = keep_small (λ c. eqb (evaluate K (coefficients K s.sums s.count) c) 0) l small

  -- What decoding lists is few, in few digits.
  abbrev Lists : Outcome (List ℕ) → Type 0
  Lists (refused n) = Small n
  Lists (given found) = AllSmall found × (length found ≤ most_lines)

  -- Decoding the log lists so.
  lists_decoded : (s : Sketch) (l : List ℕ) → AllSmall l → length l ≤ most_lines → Lists (calls.decode K true s l (length l))
  unfolding calls.decode
  lists_decoded s l small few = by_tests (leb s.count s.threshold) (leb (length l) (length l))
    where
      by_tests : (within room : Bool) → Lists (unless within 4 (unless room 5 (given (decoding.decode K s l))))
      by_tests false room = omega arith
      by_tests true false = omega arith
      by_tests true true = (decode_small s l small, omega (arith, decode_fewer K s l))

  -- What a sketch lists as surplus of numbers of few digits has few digits.
  surplus_small : (s : Sketch) (g : List ℕ) → AllSmall g → AllSmall (decoding.surplus K s g)
  unfolding decoding.surplus
  surplus_small s g small = by_sign (eqb (surplus_in s) 0)
    where
      by_sign : (none : Bool) → AllSmall (cond none [] (decoding.decode K (negate K s) g))
      by_sign true = tt
      by_sign false = decode_small (negate K s) g small

  -- Decoding the surplus lists so.
  lists_surplus : (s : Sketch) (g : List ℕ) → AllSmall g → length g ≤ most_lines → Lists (calls.decode_surplus K true s g (length g))
  unfolding calls.decode_surplus
  lists_surplus s g small few = by_tests (leb (surplus_in s) s.threshold) (leb (length g) (length g))
    where
      by_tests : (within room : Bool) → Lists (unless within 4 (unless room 5 (given (decoding.surplus K s g))))
      by_tests false room = omega arith
      by_tests true false = omega arith
      by_tests true true = (surplus_small s g small, omega (arith, surplus_fewer K s g))

  -- So does whichever of the two the signed count asks for.
  lists_for : (count : ℤ) (l g : List ℕ) (s : Sketch) → AllSmall l → length l ≤ most_lines → AllSmall g → length g ≤ most_lines
      → Lists (listed_for K count l g s)
  lists_for (pos n) l g s sl few sg few_gots = lists_decoded s l sl few
  lists_for (negsuc n) l g s sl few sg few_gots = lists_surplus s g sg few_gots

  -- What is told has few digits and few entries.
  abbrev Tells : Outcome Report → Type 0
  Tells (refused n) = Small n
  Tells (given r) = Small r.threshold × Small (nat_abs r.count) × AllSmall r.found × (length r.found ≤ most_lines)

  -- A report of what is listed so has few digits and few entries.
  tells_reported : (T : ℕ) (count : ℤ) (o : Outcome (List ℕ)) → Small T → Small (nat_abs count) → Lists o → Tells (reported T count o)
  tells_reported T count (refused n) st sc lists = lists
  tells_reported T count (given found) st sc lists = (st, sc, lists.0, lists.1)

  -- So has the decision after good lines.
  tells_decided : (T : ℕ) (l g : List ℕ) (s : Sketch) → Small T → AllSmall l → length l ≤ most_lines → AllSmall g → length g ≤ most_lines
      → s.count < counts → Tells (decided K T l g s)
  unfolding decided
  tells_decided T l g s st sl few sg few_gots below =
      let small = signed_small s.count below in
      tells_reported T (signed_count s.count) (listed_for K (signed_count s.count) l g s) st (omega arith)
      (lists_for (signed_count s.count) l g s sl few sg few_gots)

  -- A subtraction leaves one of the counts there are.
  subtract_below : (s o : Sketch) → (subtract K s o).count < counts
  unfolding subtract
  subtract_below s o = mod-lt _ (omega arith)

  -- What any lines come to has few digits and few entries.
  tells_outcome : (s : Seen) → Holds s → Tells (outcome K s)
  unfolding outcome
  tells_outcome unbegun h = omega arith
  tells_outcome (logs T l) h =
      tells_decided T l [] _ h.0 h.1 h.2 tt zero-le (subtract_below (sketch_of_codes K T l) (sketch_of_codes K T []))
  tells_outcome (gots T l g) h =
      tells_decided T l g _ h.0 h.1 h.2 h.3 h.4 (subtract_below (sketch_of_codes K T l) (sketch_of_codes K T g))
  tells_outcome (stopped n) h = h

  -- The lines of the entries, missing or surplus, have at most 29 bytes each.
  entries_short : (count : ℤ) (found : List ℕ) → AllSmall found → length (lines (entry_word count) found) ≤ 29 * length found
  entries_short (pos n) found small = lines_short missing_word found small
  entries_short (negsuc n) found small = lines_short surplus_word found small

  -- What is printed of it is at most so long.
  printed_short : (o : Outcome Report) → Tells o → length (printed o) ≤ 262144
  unfolding printed
  printed_short (refused n) h = omega (arith, line_short refusal_word n h)
  printed_short (given r) h =
      simp length-append
      (omega (
        arith,
        line_short refusal_word 0 (omega arith),
        line_short threshold_word r.threshold h.0,
        signed_short count_word r.count h.1,
        line_short found_word (length r.found) (omega (arith, h.3)),
        entries_short r.count r.found h.2,
        h.3,
      ))

  -- The answer to any input is at most so long.
  pub answer_short : (input : List ℕ) → length (desk_answer K input) ≤ 262144
  unfolding desk_answer read_lines
  answer_short input =
      printed_short (outcome K (read_lines K (cut input)))
      (tells_outcome (read_lines K (cut input)) (holds_closed (all_lines K unbegun (cut input).whole) (cut input).rest
      (holds_lines unbegun (cut input).whole tt)))

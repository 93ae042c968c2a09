-- The desk's promise at work, at its limit: inputs that meet every premise with nothing to spare.
-- Assumes nothing.
use Prim.Native.Nat.{ℕ}
use mathlib.Core.Path.{◌≡◌, refl, sym, ap, ◌∙◌}
use mathlib.Core.List.{List, [], ◌∷◌, ◌++◌}
use native.Mathlib.Omega.{arith}
use lib.Dec.{lit<, lit≤}
use lib.IntN.{pos}
use lib.ListN.{length, replicate, length-replicate}
use Rattle.numbers.specs.Table.{every}
use Rattle.rules.specs.Kind.{kind32}
use Rattle.rules.specs.Sketch as sketch
use Rattle.rules.specs.Calls.{given}
use Rattle.rules.specs.History.{Leaves}
use Rattle.desk_rules.specs.Lines.{bytes_of, threshold_word}
use Rattle.desk_rules.specs.Desk.{gots, outcome}
use Rattle.desk_rules.specs.Text.{decimal, refusal_word, count_word, found_word, missing_word, line, lines, desk_answer}
use Rattle.desk_rules.specs.Castle.{input_of, Castle, missing_of, output_for}
use Rattle.rules.proofs.Each.{zeros_below, append_below, every_below}
use Rattle.desk_rules.proofs.Text.{decimal_digit, decimal_digits}
use Rattle.desk_rules.proofs.Missing.{lacking, missing_exact}
use Rattle.desk_rules.proofs.Castle.{castle_exact}

-- A log with the code 7 three times and the prime itself as a code, whose residue is 0.
abbrev logged : List ℕ
logged = 7 ∷ 4294967291 ∷ 9 ∷ 7 ∷ 7 ∷ []

-- What is got of it: 0 for the prime, 9, and one 7 of three.
abbrev gotten : List ℕ
gotten = 0 ∷ 9 ∷ 7 ∷ []

-- Two are missing, just as many as the threshold 2 allows.
pub castle_at_the_limit : Castle kind32 2 logged gotten
unfolding every
castle_at_the_limit = record {
  at_least = lit≤ tt;
  at_most = lit≤ tt;
  few_lines = lit≤ tt;
  log_codes = every_below 4294967296 0 logged refl;
  got_codes = every_below 4294967296 0 gotten refl;
  got_of_logged = λ r. omega arith;
  few_missing = lit≤ tt;
}

-- The prime is printed in ten digits.
pub digits_of_prime : decimal 4294967291 ≡ bytes_of "4294967291"
digits_of_prime =
    rw (
      decimal_digits 4294967291 (lit≤ tt),
      decimal_digits 429496729 (lit≤ tt),
      decimal_digits 42949672 (lit≤ tt),
      decimal_digits 4294967 (lit≤ tt),
      decimal_digits 429496 (lit≤ tt),
      decimal_digits 42949 (lit≤ tt),
      decimal_digits 4294 (lit≤ tt),
      decimal_digits 429 (lit≤ tt),
      decimal_digits 42 (lit≤ tt),
      decimal_digit 4 (lit< tt),
    )

-- The input's bytes.
abbrev input : List ℕ
input = bytes_of "threshold=2\nlog=7\nlog=4294967291\nlog=9\nlog=7\nlog=7\ngot=0\ngot=9\ngot=7\n"

-- They are the lines of the codes.
input_at_the_limit : input_of 2 logged gotten ≡ input
unfolding input_of line lines
input_at_the_limit = rw (digits_of_prime, decimal_digit 2 (lit< tt), decimal_digit 7 (lit< tt), decimal_digit 9 (lit< tt), decimal_digit 0 (lit< tt))

-- Three entries are listed where two are missing: each 7, since no got 7 says which of them it is.
listed_at_the_limit : missing_of kind32 logged gotten ≡ 7 ∷ 7 ∷ 7 ∷ []
listed_at_the_limit = refl

-- The output that lists some entries.
abbrev listing : List ℕ → List ℕ
listing found = line refusal_word 0 ++ (line threshold_word 2 ++ (line count_word 2 ++ (line found_word (length found) ++ lines missing_word found)))

-- The output's bytes.
abbrev output : List ℕ
output = bytes_of "refusal=0\nthreshold=2\ncount=2\nfound=3\nmissing=7\nmissing=7\nmissing=7\n"

-- They are the output that lists those three.
output_at_the_limit : output_for kind32 2 logged gotten ≡ output
unfolding output_for line lines
output_at_the_limit =
    ap listing listed_at_the_limit ∙ rw (decimal_digit 0 (lit< tt), decimal_digit 2 (lit< tt), decimal_digit 3 (lit< tt), decimal_digit 7 (lit< tt))

-- The program's whole output for that input, by the promise and not by decoding.
pub castle_witness : desk_answer kind32 input ≡ output
castle_witness = ap (desk_answer kind32) (sym input_at_the_limit) ∙ castle_exact kind32 2 logged gotten castle_at_the_limit ∙ output_at_the_limit

-- The least threshold, with the greatest code logged twice and got once.
pub least_castle : Castle kind32 1 (4294967295 ∷ 4294967295 ∷ []) (4294967295 ∷ [])
unfolding every
least_castle = record {
  at_least = lit≤ tt;
  at_most = lit≤ tt;
  few_lines = lit≤ tt;
  log_codes = every_below 4294967296 0 (4294967295 ∷ 4294967295 ∷ []) refl;
  got_codes = every_below 4294967296 0 (4294967295 ∷ []) refl;
  got_of_logged = λ r. omega arith;
  few_missing = lit≤ tt;
}

-- The greatest threshold and the longest log: of 8,192 pieces 32 are missing.
pub fullest_castle : (n : ℕ) → n ≡ 8160 → Castle kind32 32 (replicate 32 0 ++ replicate n 0) (replicate n 0)
fullest_castle n e = record {
  at_least = lit≤ tt;
  at_most = lit≤ tt;
  few_lines = omega (arith, length-replicate {A = ℕ} n 0);
  log_codes = append_below 4294967296 (replicate 32 0) (replicate n 0) (zeros_below 4294967296 (lit< tt) 32) (zeros_below 4294967296 (lit< tt) n);
  got_codes = zeros_below 4294967296 (lit< tt) n;
  got_of_logged = λ r. omega arith;
  few_missing = omega arith;
}

-- The history of the input with threshold 2 leaves two.
pub leaves_at_the_limit : Leaves kind32 (lacking 2 logged gotten) 2
unfolding sketch.subtract sketch.insert sketch.fresh
leaves_at_the_limit = record {
  allowed = ((lit≤ tt, lit≤ tt), (lit≤ tt, lit≤ tt), refl);
  none_below = λ r. omega arith;
  in_all = refl;
  enough = lit≤ tt;
}

-- What its lines come to.
pub missing_witness : outcome kind32 (gots 2 logged gotten) ≡ given (record { threshold = 2; count = pos 2; found = 7 ∷ 7 ∷ 7 ∷ [] })
missing_witness = missing_exact kind32 2 logged gotten 2 leaves_at_the_limit

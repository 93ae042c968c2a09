-- The desk's promise for a surplus at work, at its limit: inputs that meet every premise with nothing to spare.
-- Assumes nothing.
use Prim.Native.Nat.{ℕ}
use mathlib.Core.Path.{◌≡◌, refl, sym, ap, ◌∙◌}
use mathlib.Core.List.{List, [], ◌∷◌, ◌++◌}
use native.Mathlib.Omega.{arith}
use lib.Dec.{lit<, lit≤}
use lib.IntN.{negsuc}
use lib.ListN.{length, replicate, length-replicate}
use Rattle.numbers.specs.Table.{every}
use Rattle.rules.specs.Kind.{kind32}
use Rattle.rules.specs.Sketch as sketch
use Rattle.rules.specs.Calls.{given}
use Rattle.rules.specs.History.{Exceeds}
use Rattle.desk_rules.specs.Lines.{bytes_of, threshold_word}
use Rattle.desk_rules.specs.Desk.{gots, outcome}
use Rattle.desk_rules.specs.Text.{refusal_word, count_word, minus_sign, found_word, surplus_word, line, lines, desk_answer}
use Rattle.desk_rules.specs.Castle.{input_of, Overfull, surplus_of, surplus_output_for}
use Rattle.rules.proofs.Each.{zeros_below, append_below, every_below}
use Rattle.desk_rules.proofs.Text.{decimal_digit}
use Rattle.desk_rules.proofs.Missing.{lacking, surplus_told}
use Rattle.desk_rules.proofs.Overfull.{overfull_exact}
use Rattle.desk_rules.proofs.Witness.{digits_of_prime}

-- A log of three codes.
abbrev logged : List ℕ
logged = 7 ∷ 0 ∷ 9 ∷ []

-- What is got: a 7 too many, and with the 0 the prime itself as a code, whose residue is 0.
abbrev gotten : List ℕ
gotten = 7 ∷ 4294967291 ∷ 9 ∷ 7 ∷ 0 ∷ []

-- Two are surplus, just as many as the threshold 2 allows.
pub overfull_at_the_limit : Overfull kind32 2 logged gotten
unfolding every
overfull_at_the_limit = record {
  at_least = lit≤ tt;
  at_most = lit≤ tt;
  few_lines = lit≤ tt;
  few_gots = lit≤ tt;
  log_codes = every_below 4294967296 0 logged refl;
  got_codes = every_below 4294967296 0 gotten refl;
  logged_of_got = λ r. omega arith;
  some_surplus = lit< tt;
  few_surplus = lit≤ tt;
}

-- The input's bytes.
abbrev input : List ℕ
input = bytes_of "threshold=2\nlog=7\nlog=0\nlog=9\ngot=7\ngot=4294967291\ngot=9\ngot=7\ngot=0\n"

-- They are the lines of the codes.
input_at_the_limit : input_of 2 logged gotten ≡ input
unfolding input_of line lines
input_at_the_limit = rw (digits_of_prime, decimal_digit 2 (lit< tt), decimal_digit 7 (lit< tt), decimal_digit 0 (lit< tt), decimal_digit 9 (lit< tt))

-- Four codes are listed where two are surplus: each 7, and both codes of the residue 0, since no log line says which of them it is.
listed_at_the_limit : surplus_of kind32 logged gotten ≡ 7 ∷ 4294967291 ∷ 7 ∷ 0 ∷ []
listed_at_the_limit = refl

-- The output that lists some codes.
abbrev listing : List ℕ → List ℕ
listing found =
    line refusal_word 0
    ++ (line threshold_word 2 ++ (line (count_word ++ (minus_sign ∷ [])) 2 ++ (line found_word (length found) ++ lines surplus_word found)))

-- The output's bytes.
abbrev output : List ℕ
output = bytes_of "refusal=0\nthreshold=2\ncount=-2\nfound=4\nsurplus=7\nsurplus=4294967291\nsurplus=7\nsurplus=0\n"

-- They are the output that lists those four.
output_at_the_limit : surplus_output_for kind32 2 logged gotten ≡ output
unfolding surplus_output_for line lines
output_at_the_limit =
    ap listing listed_at_the_limit
    ∙ rw (digits_of_prime, decimal_digit 0 (lit< tt), decimal_digit 2 (lit< tt), decimal_digit 4 (lit< tt), decimal_digit 7 (lit< tt))

-- The program's whole output for that input, by the promise and not by decoding.
pub overfull_witness : desk_answer kind32 input ≡ output
overfull_witness = ap (desk_answer kind32) (sym input_at_the_limit) ∙ overfull_exact kind32 2 logged gotten overfull_at_the_limit ∙ output_at_the_limit

-- The least threshold and no log line, with the greatest code got once.
pub least_overfull : Overfull kind32 1 [] (4294967295 ∷ [])
unfolding every
least_overfull = record {
  at_least = lit≤ tt;
  at_most = lit≤ tt;
  few_lines = lit≤ tt;
  few_gots = lit≤ tt;
  log_codes = tt;
  got_codes = every_below 4294967296 0 (4294967295 ∷ []) refl;
  logged_of_got = λ r. omega arith;
  some_surplus = lit< tt;
  few_surplus = lit≤ tt;
}

-- The greatest threshold and the most got lines: of 8,192 pieces 32 are surplus.
pub fullest_overfull : (n : ℕ) → n ≡ 8160 → Overfull kind32 32 (replicate n 0) (replicate 32 0 ++ replicate n 0)
fullest_overfull n e = record {
  at_least = lit≤ tt;
  at_most = lit≤ tt;
  few_lines = omega (arith, length-replicate {A = ℕ} n 0);
  few_gots = omega (arith, length-replicate {A = ℕ} n 0);
  log_codes = zeros_below 4294967296 (lit< tt) n;
  got_codes = append_below 4294967296 (replicate 32 0) (replicate n 0) (zeros_below 4294967296 (lit< tt) 32) (zeros_below 4294967296 (lit< tt) n);
  logged_of_got = λ r. omega arith;
  some_surplus = omega arith;
  few_surplus = omega arith;
}

-- The history of the input with threshold 2 exceeds by two.
pub exceeds_at_the_limit : Exceeds kind32 (lacking 2 logged gotten) 2
unfolding sketch.subtract sketch.insert sketch.fresh
exceeds_at_the_limit = record {
  allowed = ((lit≤ tt, lit≤ tt), (lit≤ tt, lit≤ tt), refl);
  none_above = λ r. omega arith;
  in_all = refl;
  few = lit≤ tt;
}

-- What its lines come to: the count is -2.
pub surplus_witness : outcome kind32 (gots 2 logged gotten) ≡ given (record { threshold = 2; count = negsuc 1; found = 7 ∷ 4294967291 ∷ 7 ∷ 0 ∷ [] })
surplus_witness = surplus_told kind32 2 logged gotten 1 exceeds_at_the_limit

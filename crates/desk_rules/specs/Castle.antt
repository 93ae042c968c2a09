-- The desk's two promises in numbers of log lines and got lines alone, for a shortage and for a surplus: which inputs each is for, and the whole output.
-- Definitions only.
-- Assumes nothing.
use Rattle.std.specs.Prelude.{ℕ, ◌+◌, ◌-◌, ◌^◌, ◌≤◌, ◌<◌, Bool, List, [], ◌∷◌, ◌++◌, map, ltb, length}
use Rattle.newton.specs.Members.{AllBelow, count}
use Rattle.rules.specs.Kind.{Kind}
use Rattle.rules.specs.Field.{residue}
use Rattle.rules.specs.Decode.{keep}
use Rattle.desk_rules.specs.Lines.{threshold_word, log_word, got_word}
use Rattle.desk_rules.specs.Desk.{most_lines}
use Rattle.desk_rules.specs.Text.{refusal_word, count_word, found_word, missing_word, surplus_word, minus_sign, line, lines}

-- How often a list of codes has a residue.
abbrev pub times_in : Kind → ℕ → List ℕ → ℕ
times_in K r codes = count r (map (residue K) codes)

-- The input with threshold T, the log codes l and the got codes g: a line for each, in their order, and no other byte.
unfoldable pub input_of : ℕ → List ℕ → List ℕ → List ℕ
input_of T l g = line threshold_word T ++ (lines log_word l ++ lines got_word g)

-- ---- a shortage

-- What the promise asks of an input: the threshold is in range, the log has no more lines than it may have, each number is a code, each residue is got at
-- most as often as it is logged, and at most T are missing in all.
pub record Castle (K : Kind) (T : ℕ) (l g : List ℕ) : Type 0 where
  pub at_least : 1 ≤ T
  pub at_most : T ≤ K.greatest
  pub few_lines : length l ≤ most_lines
  pub log_codes : AllBelow (256 ^ K.code_bytes) l
  pub got_codes : AllBelow (256 ^ K.code_bytes) g
  pub got_of_logged : (r : ℕ) → times_in K r g ≤ times_in K r l
  pub few_missing : length l ≤ T + length g

-- Whether a code is missing: its residue is logged more often than got.
abbrev pub is_missing : Kind → List ℕ → List ℕ → ℕ → Bool
is_missing K l g c = ltb (times_in K (residue K c) g) (times_in K (residue K c) l)

-- The entries of the log that are missing, as they stand, in its order, repeats kept.
abbrev pub missing_of : Kind → List ℕ → List ℕ → List ℕ
missing_of K l g = keep (is_missing K l g) l

-- The whole output: no refusal, the threshold, how many are missing, how many entries are listed, and a line for each of them.
unfoldable pub output_for : Kind → ℕ → List ℕ → List ℕ → List ℕ
output_for K T l g =
    line refusal_word 0
    ++ (line threshold_word T
    ++ (line count_word (length l - length g) ++ (line found_word (length (missing_of K l g)) ++ lines missing_word (missing_of K l g))))

-- ---- a surplus

-- What the promise asks of an input with the roles changed: the threshold is in range, there are no more log lines and no more got lines than there may be,
-- each number is a code, each residue is logged at most as often as it is got, more are got than logged, and at most T are surplus in all.
pub record Overfull (K : Kind) (T : ℕ) (l g : List ℕ) : Type 0 where
  pub at_least : 1 ≤ T
  pub at_most : T ≤ K.greatest
  pub few_lines : length l ≤ most_lines
  pub few_gots : length g ≤ most_lines
  pub log_codes : AllBelow (256 ^ K.code_bytes) l
  pub got_codes : AllBelow (256 ^ K.code_bytes) g
  pub logged_of_got : (r : ℕ) → times_in K r l ≤ times_in K r g
  pub some_surplus : length l < length g
  pub few_surplus : length g ≤ T + length l

-- Whether a code is surplus: its residue is got more often than logged.
abbrev pub is_surplus : Kind → List ℕ → List ℕ → ℕ → Bool
is_surplus K l g c = ltb (times_in K (residue K c) l) (times_in K (residue K c) g)

-- The got codes that are surplus, as they stand, in their order, repeats kept.
abbrev pub surplus_of : Kind → List ℕ → List ℕ → List ℕ
surplus_of K l g = keep (is_surplus K l g) g

-- The whole output: no refusal, the threshold, how many are surplus behind a minus sign, how many codes are listed, and a line for each of them.
unfoldable pub surplus_output_for : Kind → ℕ → List ℕ → List ℕ → List ℕ
surplus_output_for K T l g =
    line refusal_word 0
    ++ (line threshold_word T
    ++ (line (count_word ++ (minus_sign ∷ [])) (length g - length l)
    ++ (line found_word (length (surplus_of K l g)) ++ lines surplus_word (surplus_of K l g))))

-- The text of the desk program's answer, and the answer to a whole input.
-- Assumes nothing.
use Rattle.std.specs.Prelude.{ℕ, zero, suc, ◌+◌, ◌/◌, ◌%◌, cond, List, [], ◌∷◌, ◌++◌, ltb, ℤ, pos, negsuc, length}
use Rattle.rules.specs.Kind.{Kind}
use Rattle.rules.specs.Calls.{Outcome, refused, given}
use Rattle.desk_rules.specs.Lines.{bytes_of, LF, threshold_word, cut}
use Rattle.desk_rules.specs.Desk.{Report, read_lines, outcome}

-- ---- numbers

-- The last decimal digit of n.
abbrev pub last_digit : ℕ → ℕ
last_digit n = 48 + n % 10

-- The decimal digits of n, after at most k divisions by ten.
unfoldable pub decimal_within : ℕ → ℕ → List ℕ
decimal_within zero n = last_digit n ∷ []
decimal_within (suc k) n = cond (ltb n 10) (last_digit n ∷ []) (decimal_within k (n / 10) ++ (last_digit n ∷ []))

-- The decimal digits of n, without leading zeros; those of n / 10 and then the last one.
unfoldable pub decimal : ℕ → List ℕ
unfolding decimal_within
decimal n = decimal_within n n

-- ---- lines

-- The words of the answer; that of the threshold is the input's.
abbrev pub refusal_word : List ℕ
refusal_word = bytes_of "refusal="

-- The word of the line that says the count.
abbrev pub count_word : List ℕ
count_word = bytes_of "count="

-- The word of the line that says how many entries are found.
abbrev pub found_word : List ℕ
found_word = bytes_of "found="

-- The word of the line for each entry that is missing.
abbrev pub missing_word : List ℕ
missing_word = bytes_of "missing="

-- The word of the line for each code that is surplus.
abbrev pub surplus_word : List ℕ
surplus_word = bytes_of "surplus="

-- The word of the lines for the entries found, by the signed count: surplus where it is negative.
abbrev pub entry_word : ℤ → List ℕ
entry_word (pos n) = missing_word
entry_word (negsuc n) = surplus_word

-- A word, a number, and one LF.
unfoldable pub line : List ℕ → ℕ → List ℕ
line word n = word ++ (decimal n ++ (LF ∷ []))

-- The byte in front of the digits of a negative number.
abbrev pub minus_sign : ℕ
minus_sign = 45

-- A word, a signed number, and one LF: a negative number is a minus sign and the digits of its size.
unfoldable pub signed_line : List ℕ → ℤ → List ℕ
signed_line word (pos n) = line word n
signed_line word (negsuc n) = line (word ++ (minus_sign ∷ [])) (suc n)

-- One line for each number of a list, in its order.
unfoldable pub lines : List ℕ → List ℕ → List ℕ
lines word [] = []
lines word (x ∷ xs) = line word x ++ lines word xs

-- ---- the answer

-- A refusal is the whole answer; otherwise the threshold, the signed count, how many entries are found, and each of them.
unfoldable pub printed : Outcome Report → List ℕ
printed (refused n) = line refusal_word n
printed (given r) =
    line refusal_word 0
    ++ (line threshold_word r.threshold
    ++ (signed_line count_word r.count ++ (line found_word (length r.found) ++ lines (entry_word r.count) r.found)))

-- The program's whole output for a whole input.
unfoldable pub desk_answer : Kind → List ℕ → List ℕ
desk_answer K input = printed (outcome K (read_lines K (cut input)))

-- The laws of the answer's text: the digits of a number, and how long lines are.
-- Assumes nothing.
use Prim.Native.Nat.{ℕ, zero, suc, ◌+◌, ◌*◌, ◌/◌, ◌^◌, ◌≤◌, ◌<◌, zero-le}
use mathlib.Core.Path.{◌≡◌, refl, ap, sym, ◌∙◌}
use mathlib.Core.Bool.{Bool, true, false, cond}
use mathlib.Core.List.{List, [], ◌∷◌, ◌++◌, append_assoc, append-nil}
use native.Mathlib.Nat.{pow-suc, pow-zero, mul-suc}
use native.Mathlib.Numerals.{add-one}
use native.Mathlib.Omega.{arith}
use lib.Dec.{ltb}
use lib.IntN.{ℤ, pos, negsuc, nat_abs}
use lib.ListN.{length, get_or, take, drop, length-append, take-append-drop}
use lib.Seq.{take-suc}
use borrow.Author.Tests.{lt-ltb, le-ltb, ltb-true, ltb-false}
use Rattle.newton.specs.Members.{AllBelow}
use Rattle.desk_rules.specs.Text.{last_digit, decimal_within, decimal, line, minus_sign, signed_line, lines}

-- ---- the digits of a number

-- Divisions beyond the number itself change nothing.
enough : (k j n : ℕ) → n ≤ k → n ≤ j → decimal_within k n ≡ decimal_within j n
unfolding decimal_within
enough zero zero n l m = refl
enough zero (suc j) n l m = rw (lt-ltb n 10 (omega arith))
enough (suc k) zero n l m = rw (lt-ltb n 10 (omega arith))
enough (suc k) (suc j) n l m = rw (enough k j (n / 10) (omega arith) (omega arith))

-- The digits of a number are those of its tenth, and then the last one.
pub decimal_step : (n : ℕ) → decimal n ≡ cond (ltb n 10) (last_digit n ∷ []) (decimal (n / 10) ++ (last_digit n ∷ []))
unfolding decimal decimal_within
decimal_step zero = refl
decimal_step (suc k) = rw (enough k (suc k / 10) (suc k / 10) (omega arith) (omega arith))

-- A number below ten has one digit.
pub decimal_digit : (n : ℕ) → n < 10 → decimal n ≡ last_digit n ∷ []
decimal_digit n l = rw (decimal_step n, lt-ltb n 10 l)

-- The digits of a number from ten on are those of its tenth, and then the last one.
pub decimal_digits : (n : ℕ) → 10 ≤ n → decimal n ≡ decimal (n / 10) ++ (last_digit n ∷ [])
decimal_digits n l = rw (decimal_step n, le-ltb n 10 l)

-- One digit more than the tenth has.
one_more : (n m : ℕ) (small : Bool) → ltb n 10 ≡ small → length (decimal (n / 10)) ≤ m → length (decimal n) ≤ suc m
one_more n m true e h = rw (decimal_digit n (ltb-true n 10 e)) (omega arith)
one_more n m false e h = rw (decimal_digits n (ltb-false n 10 e), length-append) (omega arith)

-- A number below 10^(j + 1) has at most j + 1 digits.
pub decimal_short : (j n : ℕ) → n < 10 ^ suc j → length (decimal n) ≤ suc j
decimal_short zero n u = rw (decimal_digit n (omega (arith, pow-suc 10 0, pow-zero 10))) (omega arith)
decimal_short (suc j) n u = one_more n (suc j) (ltb n 10) refl (decimal_short j (n / 10) (omega (arith, pow-suc 10 (suc j))))

-- ---- lines

-- A line is as long as its word, the digits of its number, and one LF.
pub line_length : (word : List ℕ) (n : ℕ) → length (line word n) ≡ length word + length (decimal n) + 1
unfolding line
line_length word n = simp length-append (omega arith)

-- The lines of two lists together are theirs, one behind the other.
pub lines_append : (word xs ys : List ℕ) → lines word (xs ++ ys) ≡ lines word xs ++ lines word ys
unfolding lines
lines_append word [] ys = refl
lines_append word (x ∷ xs) ys = rw (lines_append word xs ys, append_assoc)

-- One line more.
pub lines_more : (word xs : List ℕ) (i : ℕ) → i < length xs → lines word (take (i + 1) xs) ≡ lines word (take i xs) ++ line word (get_or xs i 0)
unfolding lines
lines_more word xs i u = rw (add-one, take-suc xs i 0, lines_append, append-nil)

-- The lines of the first numbers are no longer than those of all.
pub lines_part : (word xs : List ℕ) (i : ℕ) → length (lines word (take i xs)) ≤ length (lines word xs)
lines_part word xs i =
    let whole : length (lines word (take i xs)) + length (lines word (drop i xs)) ≡ length (lines word xs) =
    sym (length-append (lines word (take i xs)) (lines word (drop i xs)))
    ∙ ap length (sym (lines_append word (take i xs) (drop i xs)) ∙ ap (lines word) (take-append-drop i xs)) in
    omega arith

-- ---- how long an answer is

-- A number of at most twenty digits.
pub line_short : (word : List ℕ) (n : ℕ) → n < 10 ^ 20 → length (line word n) ≤ length word + 21
line_short word n u = omega (arith, line_length word n, decimal_short 19 n u)

-- A signed number whose size has at most twenty digits: the minus sign is one byte more.
pub signed_short : (word : List ℕ) (z : ℤ) → nat_abs z < 10 ^ 20 → length (signed_line word z) ≤ length word + 22
unfolding signed_line
signed_short word (pos n) u = omega (arith, line_short word n u)
signed_short word (negsuc n) u = omega (arith, line_short (word ++ (minus_sign ∷ [])) (suc n) u, length-append word (minus_sign ∷ []))

-- Lines of such numbers have at most 21 bytes each beside the word.
pub lines_short : (word xs : List ℕ) → AllBelow (10 ^ 20) xs → length (lines word xs) ≤ (length word + 21) * length xs
unfolding lines
lines_short word [] below = zero-le
lines_short word (x ∷ xs) below =
    let more : (length word + 21) * suc (length xs) ≡ (length word + 21) * length xs + (length word + 21) = mul-suc (length word + 21) (length xs) in
    rw length-append (omega (arith, line_short word x below.0, lines_short word xs below.1))

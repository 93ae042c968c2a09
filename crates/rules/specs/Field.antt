-- Codes and residues: arithmetic modulo a kind's prime. The numbers given need not be reduced; every answer is.
-- Assumes nothing.
use Rattle.std.specs.Prelude.{ℕ, zero, suc, ◌+◌, ◌-◌, ◌*◌, ◌/◌, ◌%◌, Bool, cond, List, eqb}
use Rattle.std.specs.Int.Count.{count_leading_zeros, ones}
use Rattle.numbers.specs.Power.{power_mod}
use Rattle.numbers.specs.Table.{every}
use Rattle.rules.specs.Kind.{Kind, bits}

-- The residue of a code: what the prime leaves of it.
abbrev pub residue : Kind → ℕ → ℕ
residue K c = c % K.modulus

-- The sum of a and b modulo the prime.
abbrev pub plus : Kind → ℕ → ℕ → ℕ
plus K a b = (a + b) % K.modulus

-- The difference of a and b modulo m. The negative of b is m less what m leaves of b, so that it is right for every a and b.
abbrev pub difference : ℕ → ℕ → ℕ → ℕ
difference m a b = (a + (m - b % m)) % m

-- The difference of a and b modulo the prime.
abbrev pub minus : Kind → ℕ → ℕ → ℕ
minus K a b = difference K.modulus a b

-- The negative of a number: 0 less it.
abbrev pub negative : Kind → ℕ → ℕ
negative K a = minus K 0 a

-- The product of a and b modulo the prime.
abbrev pub times : Kind → ℕ → ℕ → ℕ
times K a b = (a * b) % K.modulus

-- The power halves its exponent until it is 0 or 1, squares on the way back, and multiplies once more by the base where the exponent is odd.
-- The exponent is not reduced.
abbrev pub power : Kind → ℕ → ℕ → ℕ
power K b e = power_mod K.modulus b e

-- ---- the multiplications that the power makes

-- With at most k halvings of the exponent.
unfoldable pub multiplications_within : ℕ → ℕ → ℕ
multiplications_within zero e = 0
multiplications_within (suc k) zero = 0
multiplications_within (suc k) (suc zero) = 0
multiplications_within (suc k) (suc (suc n)) = multiplications_within k (suc (suc n) / 2) + 1 + suc (suc n) % 2

-- None for the exponents 0 and 1; otherwise those of half the exponent, and one more, and one more where the exponent is odd.
unfoldable pub multiplications : ℕ → ℕ
unfolding multiplications_within
multiplications e = multiplications_within e e

-- The same from the exponent's digits: one squaring for each digit below the highest, one product for each further digit that is set; none for 0.
unfoldable pub multiplications_by_digits : Kind → ℕ → ℕ
multiplications_by_digits K e = cond (eqb e 0) 0 ((bits K - 1 - count_leading_zeros (bits K) e) + (ones e - 1))

-- ---- inverses

-- The inverse is the power of the prime less 2, so the inverse of 0 is 0.
abbrev pub inverse : Kind → ℕ → ℕ
inverse K a = power K a (K.modulus - 2)

-- Entry i of the table of inverses is the inverse of i + 1, i from 0.
abbrev pub inverse_at : Kind → ℕ → ℕ
inverse_at K i = inverse K (i + 1)

-- The test of a whole table of inverses, whose entries have the numbers that `val` tells.
unfoldable pub inverses_right : {A : Type 0} → Kind → (A → ℕ) → List A → Bool
unfolding every
inverses_right {A} K val = every (λ (i : ℕ) (x : A). eqb (val x) (inverse_at K i)) 0

-- The coefficients of a sketch, one by one: they solve Newton's recurrence, and their value is Horner's.
-- Assumes nothing.
use Prim.Native.Nat.{ℕ, zero, suc, ◌+◌, ◌-◌, ◌*◌, ◌%◌, ◌^◌, ◌<◌, ◌≤◌}
use mathlib.Core.Path.{◌≡◌, refl, sym, ◌∙◌, ap, ap₂}
use mathlib.Core.Logic.{◌⊎◌, inl, inr}
use mathlib.Core.List.{List, [], ◌∷◌, reverse, reverse_aux}
use native.Mathlib.Nat.{mul-one, one-mul, zero-mod, mod_self, mod-eq_of_lt, eq-or-lt_of_le}
use native.Mathlib.Omega.{arith}
use lib.ListN.{length, get_or, length-reverse}
use Rattle.std.proofs.lemmas.Nat.{mul-mod_second}
use Rattle.numbers.proofs.Binomial.{sum_to, sum_first, sum_same}
use Rattle.numbers.proofs.Congruence.{add_congruent}
use Rattle.numbers.proofs.Euclid.{divides_none_below}
use Rattle.numbers.proofs.Power.{one_pow}
use Rattle.newton.specs.Polynomial.{horner, convolution, entry, lower_terms}
use Rattle.newton.proofs.Multiplicity.{value_as_horner}
use Rattle.newton.proofs.Recurrence.{horner_congruent}
use Rattle.rules.specs.Kind.{Kind}
use Rattle.rules.specs.Field.{residue, minus, negative, times, inverse}
use Rattle.rules.specs.Decode.{products, newest_first, coefficients, evaluate}
use Rattle.rules.proofs.Field.{minus_below, power_is, minus_then_plus, inverse_inverts}

-- ---- numbers in falling order

-- The first i values of f, the newest first.
abbrev down_from : (ℕ → ℕ) → ℕ → List ℕ
down_from f zero = []
down_from f (suc i) = f i ∷ down_from f i

reversed_past : (f : ℕ → ℕ) (n : ℕ) (bs : List ℕ) (i : ℕ) → get_or (reverse_aux (down_from f n) bs) (n + i) 0 ≡ get_or bs i 0
reversed_past f zero bs i = ap (λ (k : ℕ). get_or bs k 0) (omega arith)
reversed_past f (suc n) bs i = ap (λ (k : ℕ). get_or (reverse_aux (down_from f n) (f n ∷ bs)) k 0) (omega arith) ∙ reversed_past f n (f n ∷ bs) (suc i)

-- The other way round, value i stands at place i.
reversed_at : (f : ℕ → ℕ) (n : ℕ) (bs : List ℕ) (i : ℕ) → i < n → get_or (reverse_aux (down_from f n) bs) i 0 ≡ f i
reversed_at f zero bs i l = absurd (omega arith)
reversed_at f (suc n) bs i l = by_place (reversed_at f n (f n ∷ bs) i) (eq-or-lt_of_le (omega arith))
  where
    by_place : (i < n → get_or (reverse_aux (down_from f n) (f n ∷ bs)) i 0 ≡ f i) → (i ≡ n) ⊎ (i < n) → get_or (reverse_aux (down_from f n) (f n ∷ bs)) i 0 ≡ f i
    by_place earlier (inl e) = ap (λ (k : ℕ). get_or (reverse_aux (down_from f n) (f n ∷ bs)) k 0) (omega arith) ∙ reversed_past f n (f n ∷ bs) 0 ∙ ap f (sym e)
    by_place earlier (inr u) = earlier u

sum_of_none : (f : ℕ → ℕ) (n : ℕ) → sum_to (λ j. 0 * f j) n ≡ 0
sum_of_none f zero = refl
sum_of_none f (suc n) = omega (arith, sum_of_none f n)

products_as_sum : (ss : List ℕ) (f : ℕ → ℕ) (i : ℕ) → products ss (down_from f i) ≡ sum_to (λ j. get_or ss j 0 * f (i - j - 1)) i
products_as_sum [] f i = sym (sum_of_none (λ j. f (i - j - 1)) i)
products_as_sum (s ∷ ss) f zero = refl
products_as_sum (s ∷ ss) f (suc i) =
    ap₂ (λ (a b : ℕ). s * f a + b) first (products_as_sum ss f i ∙ sum_same _ _ (λ j. ap (λ (k : ℕ). get_or ss j 0 * f k) (later j)) i)
    ∙ sym (sum_first (λ j. get_or (s ∷ ss) j 0 * f (suc i - j - 1)) i)
  where
    first : i ≡ suc i - 0 - 1
    first = omega arith

    later : (j : ℕ) → i - j - 1 ≡ suc i - suc j - 1
    later j = omega arith

convolution_last : (f g : ℕ → ℕ) (k : ℕ) → convolution f g (suc k) ≡ convolution f (λ j. g (suc j)) k + f k * g 1
convolution_last f g zero = omega arith
convolution_last f g (suc k) = omega (arith, convolution_last (λ j. f (suc j)) g k)

products_as_convolution : (ss : List ℕ) (z : ℕ) (f : ℕ → ℕ) (i : ℕ) → i ≤ length ss → products ss (down_from f i) ≡ convolution f (entry (z ∷ ss)) i
products_as_convolution [] z f zero l = refl
products_as_convolution [] z f (suc i) l = absurd (omega arith)
products_as_convolution (s ∷ ss) z f zero l = refl
products_as_convolution (s ∷ ss) z f (suc i) l =
    omega (arith, products_as_convolution ss s f i (omega arith), convolution_last f (entry (z ∷ s ∷ ss)) i)

-- ---- the recurrence

module _ (K : Kind) (sums : List ℕ) where
  -- Coefficient k that the sums lead to, the leading one, 1, being coefficient 0.
  abbrev pub solution : ℕ → ℕ
  solution zero = 1
  solution (suc i) = times K (minus K (negative K (products sums (newest_first K sums i))) (get_or sums i 0)) (inverse K (suc i))

  newest_down : (i : ℕ) → newest_first K sums i ≡ down_from (λ j. solution (suc j)) i
  unfolding newest_first
  newest_down zero = refl
  newest_down (suc i) = ap {B = List ℕ} (λ l. solution (suc i) ∷ l) (newest_down i)

  newest_length : (i : ℕ) → length (newest_first K sums i) ≡ i
  unfolding newest_first
  newest_length zero = refl
  newest_length (suc i) = ap suc (newest_length i)

  -- The coefficients solve Newton's recurrence as far as there are sums.
  pub newton_solved : (i : ℕ) → i < length sums → suc i < K.modulus
      → (suc i * solution (suc i) + convolution solution (entry (0 ∷ sums)) (suc i)) % K.modulus ≡ 0
  newton_solved i l u =
      add_congruent m (suc i * solution (suc i)) x (convolution solution (entry (0 ∷ sums)) (suc i)) (get_or sums i 0 + lower) head
      (ap (λ (z : ℕ). z % m) (omega (arith, tail)))
      ∙ ap (λ (z : ℕ). z % m) (omega arith)
      ∙ add_congruent m (x + get_or sums i 0) (negative K lower) lower lower back refl
      ∙ minus_then_plus K 0 lower ∙ zero-mod m
    where
      m : ℕ
      m = K.modulus

      lower : ℕ
      lower = products sums (newest_first K sums i)

      x : ℕ
      x = minus K (negative K lower) (get_or sums i 0)

      back : (x + get_or sums i 0) % m ≡ negative K lower % m
      back = minus_then_plus K (negative K lower) (get_or sums i 0)

      head : (suc i * solution (suc i)) % m ≡ x % m
      head =
          mul-mod_second (suc i) (x * inverse K (suc i)) m ∙ ap (λ (z : ℕ). z % m) (omega arith) ∙ sym (mul-mod_second x (suc i * inverse K (suc i)) m)
          ∙ ap (λ (z : ℕ). (x * z) % m) (inverse_inverts K (suc i) (divides_none_below m K.prime (suc i) (omega arith) u))
          ∙ ap (λ (z : ℕ). z % m) (mul-one x)

      tail : convolution (λ j. solution (suc j)) (entry (0 ∷ sums)) i ≡ lower
      tail = sym (ap (products sums) (newest_down i) ∙ products_as_convolution sums 0 (λ j. solution (suc j)) i (omega arith))

module _ (K : Kind) (sums : List ℕ) (n : ℕ) where
  -- ---- the coefficients

  -- There are n of them.
  pub coefficients_length : length (coefficients K sums n) ≡ n
  unfolding coefficients
  coefficients_length = length-reverse (newest_first K sums n) ∙ newest_length K sums n

  -- They are the recurrence's solution.
  pub coefficient_is_solution : (i : ℕ) → i < n → get_or (coefficients K sums n) i 0 ≡ solution K sums (suc i)
  unfolding coefficients
  coefficient_is_solution i l =
      ap (λ (cs : List ℕ). get_or (reverse cs) i 0) (newest_down K sums n) ∙ reversed_at (λ j. solution K sums (suc j)) n [] i l

  -- Coefficient i, i from 0, is the recurrence's step from those before it.
  pub coefficient_at : (i : ℕ) → i < n → get_or (coefficients K sums n) i 0
      ≡ times K (minus K (negative K (sum_to (λ j. get_or sums j 0 * get_or (coefficients K sums n) (i - j - 1) 0) i)) (get_or sums i 0)) (inverse K (i + 1))
  coefficient_at i l =
      coefficient_is_solution i l
      ∙ ap₂ (λ (a b : ℕ). times K (minus K (negative K a) (get_or sums i 0)) (inverse K b)) lower (omega arith)
    where
      lower : products sums (newest_first K sums i) ≡ sum_to (λ j. get_or sums j 0 * get_or (coefficients K sums n) (i - j - 1) 0) i
      lower =
          ap (products sums) (newest_down K sums i) ∙ products_as_sum sums (λ j. solution K sums (suc j)) i
          ∙ sum_same _ _ (λ j. ap (λ (a : ℕ). get_or sums j 0 * a) (sym (coefficient_is_solution (i - j - 1) (omega arith)))) i

  -- The first coefficient is the negative of the first sum.
  pub first_coefficient : 0 < n → get_or (coefficients K sums n) 0 0 ≡ negative K (get_or sums 0 0)
  first_coefficient l =
      coefficient_at 0 l ∙ ap₂ (λ (a b : ℕ). times K (minus K a (get_or sums 0 0)) b) none one
      ∙ ap (λ (z : ℕ). z % K.modulus) (mul-one _) ∙ mod-eq_of_lt (minus_below K 0 (get_or sums 0 0))
    where
      none : negative K 0 ≡ 0
      none = ap (λ (z : ℕ). (0 + (K.modulus - z)) % K.modulus) (zero-mod K.modulus) ∙ ap (λ (z : ℕ). z % K.modulus) (omega arith) ∙ mod_self K.modulus

      one : inverse K 1 ≡ 1
      one = power_is K 1 (K.modulus - 2) ∙ ap (λ (z : ℕ). z % K.modulus) (one_pow (K.modulus - 2)) ∙ mod-eq_of_lt K.prime.above_one

-- ---- the value

-- The value of any coefficients is Horner's.
pub evaluate_as_horner : (K : Kind) (cs : List ℕ) (c : ℕ) → evaluate K cs c ≡ horner (entry (1 ∷ cs)) (residue K c) (length cs) % K.modulus
unfolding evaluate
evaluate_as_horner K cs c =
    ap (λ (z : ℕ). (z + lower_terms (residue K c) cs) % K.modulus) (sym (one-mul (residue K c ^ length cs)))
    ∙ ap (λ (z : ℕ). z % K.modulus) (value_as_horner (residue K c) 1 cs)

-- The value of the coefficients is Horner's value of the recurrence's solution.
pub evaluate_solution : (K : Kind) (sums : List ℕ) (n c : ℕ)
    → evaluate K (coefficients K sums n) c ≡ horner (solution K sums) (residue K c) n % K.modulus
evaluate_solution K sums n c =
    evaluate_as_horner K (coefficients K sums n) c
    ∙ ap (λ (m : ℕ). horner (entry (1 ∷ coefficients K sums n)) (residue K c) m % K.modulus) (coefficients_length K sums n)
    ∙ horner_congruent K.modulus (entry (1 ∷ coefficients K sums n)) (solution K sums) (residue K c) n same
  where
    same : (j : ℕ) → j ≤ n → entry (1 ∷ coefficients K sums n) j % K.modulus ≡ solution K sums j % K.modulus
    same zero l = refl
    same (suc j) l = ap (λ (z : ℕ). z % K.modulus) (coefficient_is_solution K sums n j l)

-- Newton's identities: k times coefficient k, and the convolution of the coefficients with the power sums, add up to 0 modulo p.
-- Assumes nothing.
use Prim.Native.Nat.{ℕ, zero, suc, ◌+◌, ◌-◌, ◌*◌, ◌%◌, ◌^◌, ◌∣◌}
use mathlib.Core.Path.{◌≡◌, refl, sym, ◌∙◌, ap, ap₂, subst}
use mathlib.Core.List.{List, [], ◌∷◌}
use native.Mathlib.Nat.{pow-zero, pow-succ', dvd-add, dvd-zero, dvd-mul_right, dvd-mul_left_of_dvd, mod-eq-zero_of_dvd}
use native.Mathlib.Omega.{arith}
use Rattle.newton.specs.Members.{AllBelow}
use Rattle.newton.specs.PowerSum.{power_sum}
use Rattle.newton.specs.Polynomial.{coefficient, convolution}

-- ---- convolutions

convolution_combined : (f h : ℕ → ℕ) (s : ℕ) (g : ℕ → ℕ) (k : ℕ) → convolution (λ j. f j + s * h j) g k ≡ convolution f g k + s * convolution h g k
convolution_combined f h s g zero = omega arith
convolution_combined f h s g (suc k) = omega (arith, convolution_combined (λ j. f (suc j)) (λ j. h (suc j)) s g k)

convolution_of_sum : (f g h : ℕ → ℕ) (k : ℕ) → convolution f (λ i. g i + h i) k ≡ convolution f g k + convolution f h k
convolution_of_sum f g h zero = refl
convolution_of_sum f g h (suc k) = omega (arith, convolution_of_sum (λ j. f (suc j)) g h k)

convolution_of_none : (f : ℕ → ℕ) (k : ℕ) → convolution f (λ i. 0) k ≡ 0
convolution_of_none f zero = refl
convolution_of_none f (suc k) = omega (arith, convolution_of_none (λ j. f (suc j)) k)

convolution_of_powers : (f : ℕ → ℕ) (r k : ℕ) → convolution f (λ i. r ^ i) (suc k) ≡ r * convolution f (λ i. r ^ i) k + f k * r
convolution_of_powers f r zero = omega (arith, ap (λ (x : ℕ). f 0 * x) (pow-succ' r 0), ap (λ (x : ℕ). f 0 * (r * x)) (pow-zero r))
convolution_of_powers f r (suc k) = omega (arith, convolution_of_powers (λ j. f (suc j)) r k, ap (λ (x : ℕ). f 0 * x) (pow-succ' r (suc k)))

-- ---- the identities

-- The algebra of one more member r, with s for its negative: its powers' convolution leaves multiples of r + s, which is p.
collected : (p r s k upper lower upper_sums lower_sums upper_powers lower_powers : ℕ) → r + s ≡ p → upper_powers ≡ r * lower_powers + lower * r
    → suc k * (upper + s * lower) + ((upper_powers + s * lower_powers) + (upper_sums + s * lower_sums))
    ≡ (suc k * upper + upper_sums) + s * (k * lower + lower_sums) + p * (lower + lower_powers)
collected p r s k upper lower upper_sums lower_sums upper_powers lower_powers e powers =
    omega (arith, ap (λ (x : ℕ). x * lower) e, ap (λ (x : ℕ). x * lower_powers) e)

module _ (p : ℕ) where
  -- The leading coefficient is 1.
  pub leading_is_one : (rs : List ℕ) → coefficient p rs 0 ≡ 1
  leading_is_one [] = refl
  leading_is_one (r ∷ rs) = leading_is_one rs

  convolution_of_cons : (r : ℕ) (rs : List ℕ) (g : ℕ → ℕ) (k : ℕ)
      → convolution (coefficient p (r ∷ rs)) g (suc k) ≡ convolution (coefficient p rs) g (suc k) + (p - r) * convolution (coefficient p rs) g k
  convolution_of_cons r rs g k = omega (arith, convolution_combined (λ j. coefficient p rs (suc j)) (coefficient p rs) (p - r) g k)

  -- What Newton's identity says is 0 modulo p.
  abbrev total : List ℕ → ℕ → ℕ
  total rs k = k * coefficient p rs k + convolution (coefficient p rs) (power_sum rs) k

  total_of_cons : (r : ℕ) (rs : List ℕ) (k : ℕ) → r + (p - r) ≡ p
      → total (r ∷ rs) (suc k) ≡ total rs (suc k) + (p - r) * total rs k + p * (coefficient p rs k + convolution (coefficient p rs) (λ i. r ^ i) k)
  total_of_cons r rs k e =
      ap (λ (x : ℕ). suc k * (coefficient p rs (suc k) + (p - r) * coefficient p rs k) + x)
      (convolution_of_sum (coefficient p (r ∷ rs)) (λ i. r ^ i) (power_sum rs) (suc k)
      ∙ ap₂ ◌+◌ (convolution_of_cons r rs (λ i. r ^ i) k) (convolution_of_cons r rs (power_sum rs) k))
      ∙ collected p r (p - r) k (coefficient p rs (suc k)) (coefficient p rs k)
      (convolution (coefficient p rs) (power_sum rs) (suc k)) (convolution (coefficient p rs) (power_sum rs) k)
      (convolution (coefficient p rs) (λ i. r ^ i) (suc k)) (convolution (coefficient p rs) (λ i. r ^ i) k) e (convolution_of_powers (coefficient p rs) r k)

  divides_total : (rs : List ℕ) → AllBelow p rs → (k : ℕ) → p ∣ total rs k
  divides_total rs below zero = subst (λ (x : ℕ). p ∣ x) (omega arith) (dvd-zero p)
  divides_total [] below (suc k) = subst (λ (x : ℕ). p ∣ x) (omega (arith, convolution_of_none (coefficient p []) (suc k))) (dvd-zero p)
  divides_total (r ∷ rs) below (suc k) =
      subst (λ (x : ℕ). p ∣ x) (sym (total_of_cons r rs k (omega arith)))
      (dvd-add p (dvd-add p (divides_total rs below.1 (suc k)) (dvd-mul_left_of_dvd p (divides_total rs below.1 k) (p - r)))
      (dvd-mul_right p (coefficient p rs k + convolution (coefficient p rs) (λ i. r ^ i) k)))

  -- Newton's identities, for every list of residues and every k.
  pub newton_identity : (rs : List ℕ) → AllBelow p rs → (k : ℕ) → (k * coefficient p rs k + convolution (coefficient p rs) (power_sum rs) k) % p ≡ 0
  newton_identity rs below k = mod-eq-zero_of_dvd p (divides_total rs below k)

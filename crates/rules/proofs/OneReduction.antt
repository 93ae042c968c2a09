-- The value of coefficients by one reduction: each coefficient times the reduced power of the point, from the last one on, added up unreduced.
-- Assumes nothing.
use Prim.Native.Nat.{ℕ, suc, ◌+◌, ◌-◌, ◌*◌, ◌%◌, ◌^◌, ◌≤◌, ◌<◌}
use mathlib.Core.Path.{◌≡◌, refl, sym, ◌∙◌, ap}
use mathlib.Core.List.{List, ◌∷◌}
use native.Mathlib.Nat.{mod-mod, mod-lt, add_comm, add-mul, one-mul, mul-le-mul, pow-zero, pow-suc, mul_assoc, sub-zero, sub_self}
use native.Mathlib.Omega.{arith}
use lib.ListN.{length, get_or, drop, length-drop}
use lib.Seq.{drop-cons, drop-length}
use Rattle.numbers.proofs.Congruence.{add_congruent, mul_congruent}
use Rattle.newton.specs.Polynomial.{lower_terms}
use Rattle.rules.specs.Kind.{Kind}
use Rattle.rules.specs.Field.{residue, times}
use Rattle.rules.specs.Decode.{evaluate}
use Rattle.rules.proofs.Field.{positive}

-- The greatest product of two numbers of a kind's bytes is below this.
abbrev pub products_below : Kind → ℕ
products_below K = 256 ^ K.code_bytes * 256 ^ K.code_bytes

-- With the last j coefficients added up: the next power, and a sum that is their terms modulo the prime and at most so many products.
pub record SumSoFar (K : Kind) (cs : List ℕ) (x sum power j : ℕ) : Type 0 where
  pub within : j ≤ length cs
  pub powered : power ≡ x ^ j % K.modulus
  pub summed : sum % K.modulus ≡ lower_terms x (drop (length cs - j) cs) % K.modulus
  pub small : sum ≤ j * products_below K

module _ (K : Kind) (cs : List ℕ) (x : ℕ) where
  abbrev p : ℕ
  p = K.modulus

  -- Before the first turn nothing is added up, and the power is 1.
  pub sum_start : {power : ℕ} → power ≡ 1 % p → SumSoFar K cs x 0 power 0
  sum_start e = record {
    within = omega arith;
    powered = e ∙ ap (λ (z : ℕ). z % p) (sym (pow-zero x));
    summed = ap (λ (l : List ℕ). lower_terms x l % p) (sym (drop-length cs) ∙ ap (λ (n : ℕ). drop n cs) (sym (sub-zero (length cs))));
    small = omega arith;
  }

  -- The power fits the bytes of a code.
  pub power_small : {sum power j : ℕ} → SumSoFar K cs x sum power j → power ≤ 256 ^ K.code_bytes
  power_small {sum} {power} {j} i = omega (arith, i.powered, mod-lt (x ^ j) {m = p} (positive K), K.fits)

  -- A power times the square of the point is the power two further on.
  pub power_after : {power square : ℕ} (j : ℕ) → power ≡ x ^ j % p → square ≡ times K x x → times K power square ≡ x ^ (j + 2) % p
  power_after {power} {square} j e es =
      let same : power % p ≡ x ^ j % p = ap (λ (z : ℕ). z % p) e ∙ mod-mod (x ^ j) p in
      let squared : square % p ≡ (x * x) % p = ap (λ (z : ℕ). z % p) es ∙ mod-mod (x * x) p in
      let two_more : j + 2 ≡ suc (suc j) = omega arith in
      let split : x ^ (j + 2) ≡ x ^ j * (x * x) =
      ap (λ (m : ℕ). x ^ m) two_more ∙ pow-suc x (suc j) ∙ ap (λ (z : ℕ). z * x) (pow-suc x j) ∙ mul_assoc (x ^ j) x x in
      mul_congruent p power (x ^ j) square (x * x) same squared ∙ ap (λ (z : ℕ). z % p) (sym split)

  -- One coefficient more, and the next power.
  pub sum_turn : {sum power next j i k : ℕ} → SumSoFar K cs x sum power j → i ≡ j + 1 → next ≡ x ^ i % p → j < length cs → k ≡ length cs - j - 1
      → get_or cs k 0 ≤ 256 ^ K.code_bytes → SumSoFar K cs x (sum + get_or cs k 0 * power) next i
  sum_turn {sum} {power} {next} {j} {i} {k} s ei en l ek fits =
      let n = length cs in
      let a = get_or cs k 0 in
      let here : n - i ≡ k = omega (arith, ek, ei) in
      let after : suc k ≡ n - j = omega (arith, ek) in
      let more : drop (n - i) cs ≡ a ∷ drop (n - j) cs =
      ap (λ (m : ℕ). drop m cs) here ∙ drop-cons cs k 0 (omega (arith, ek)) ∙ ap (λ (m : ℕ). a ∷ drop m cs) after in
      let size : length (drop (n - j) cs) ≡ j = length-drop (n - j) cs ∙ omega arith in
      let same : power % p ≡ x ^ j % p = ap (λ (z : ℕ). z % p) s.powered ∙ mod-mod (x ^ j) p in
      let most : i * products_below K ≡ j * products_below K + 1 * products_below K =
      ap (λ (m : ℕ). m * products_below K) ei ∙ add-mul j 1 (products_below K) in
      record {
        within = omega (arith, ei);
        powered = en;
        summed = rw (more, size)
            (ap (λ (z : ℕ). z % p) (add_comm sum (a * power))
            ∙ add_congruent p (a * power) (a * x ^ j) sum _ (mul_congruent p a a power (x ^ j) refl same) s.summed);
        small = omega (arith, s.small, mul-le-mul fits (power_small s), most, one-mul (products_below K));
      }

  -- With the last one, the sum and the power behind it are the value modulo the prime.
  pub sum_done : {sum power j : ℕ} → SumSoFar K cs x sum power j → length cs ≤ j → x ≡ residue K x → (sum + power) % p ≡ evaluate K cs x
  unfolding evaluate
  sum_done {sum} {power} {j} i l ex =
      let all : j ≡ length cs = omega (arith, i.within) in
      let top : power % p ≡ x ^ length cs % p = ap (λ (z : ℕ). z % p) i.powered ∙ mod-mod (x ^ j) p ∙ ap (λ (m : ℕ). x ^ m % p) all in
      let none : length cs - j ≡ 0 = ap (λ (m : ℕ). length cs - m) all ∙ sub_self (length cs) in
      let low : sum % p ≡ lower_terms x cs % p = i.summed ∙ ap (λ (m : ℕ). lower_terms x (drop m cs) % p) none in
      ap (λ (z : ℕ). z % p) (add_comm sum power) ∙ add_congruent p power (x ^ length cs) sum (lower_terms x cs) top low
      ∙ ap (λ (y : ℕ). (y ^ length cs + lower_terms y cs) % p) ex

  -- The sum and the power behind it fit 64 bits as long as so many products and one more number do.
  pub sum_fits : {sum power j : ℕ} → SumSoFar K cs x sum power j → length cs ≤ K.greatest
      → K.greatest * products_below K + 256 ^ K.code_bytes < 2 ^ 64 → sum + power < 2 ^ 64
  sum_fits {sum} {power} {j} i few room =
      let most : j * products_below K ≤ K.greatest * products_below K = mul-le-mul (omega (arith, i.within)) (omega arith) in
      omega (arith, i.small, power_small i)

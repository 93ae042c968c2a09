-- Newton's recurrence: whatever solves it from a list's power sums is congruent to the list's coefficients, and is 0 exactly at the members.
-- Assumes nothing.
use Prim.Native.Nat.{ℕ, zero, suc, ◌+◌, ◌*◌, ◌%◌, ◌<◌, ◌≤◌}
use mathlib.Core.Path.{◌≡◌, refl, sym, ◌∙◌, ap}
use mathlib.Core.Logic.{◌↔◌}
use mathlib.Core.List.{List, Memᴰ}
use native.Mathlib.Nat.{add_comm, le_refl}
use native.Mathlib.Omega.{arith}
use lib.ListN.{length}
use Rattle.numbers.specs.Prime.{IsPrime}
use Rattle.numbers.proofs.Congruence.{add_congruent, mul_congruent, cancel_add}
use Rattle.numbers.proofs.Euclid.{cancel_mul}
use Rattle.newton.specs.Members.{AllBelow}
use Rattle.newton.specs.PowerSum.{power_sum}
use Rattle.newton.specs.Polynomial.{coefficient, product, horner, convolution}
use Rattle.newton.proofs.Newton.{leading_is_one, newton_identity}
use Rattle.newton.proofs.Roots.{horner_is_product, member_is_root, root_is_member}

-- ---- congruent coefficients

module _ (p : ℕ) where
  -- Numbers that congruent ones complete to 0 are congruent.
  complement_congruent : (a b d e : ℕ) → d % p ≡ e % p → (a + d) % p ≡ 0 → (b + e) % p ≡ 0 → a % p ≡ b % p
  complement_congruent a b d e same first second =
      cancel_add p d a b
      (ap (λ (z : ℕ). z % p) (add_comm d a) ∙ first ∙ sym second ∙ add_congruent p b b e d refl (sym same) ∙ ap (λ (z : ℕ). z % p) (add_comm b d))

  -- Convolutions of congruent numbers are congruent.
  pub convolution_congruent : (f f' g g' : ℕ → ℕ) (k : ℕ) → ((j : ℕ) → j < k → f j % p ≡ f' j % p) → ((i : ℕ) → 0 < i → i ≤ k → g i % p ≡ g' i % p)
      → convolution f g k % p ≡ convolution f' g' k % p
  convolution_congruent f f' g g' zero same-f same-g = refl
  convolution_congruent f f' g g' (suc k) same-f same-g =
      add_congruent p (f 0 * g (suc k)) (f' 0 * g' (suc k)) (convolution (λ j. f (suc j)) g k) (convolution (λ j. f' (suc j)) g' k)
      (mul_congruent p (f 0) (f' 0) (g (suc k)) (g' (suc k)) (same-f 0 (omega arith)) (same-g (suc k) (omega arith) (omega arith)))
      (convolution_congruent (λ j. f (suc j)) (λ j. f' (suc j)) g g' k (λ j l. same-f (suc j) (omega arith)) (λ i l u. same-g i l (omega arith)))

  -- Horner's values with congruent coefficients are congruent.
  pub horner_congruent : (f f' : ℕ → ℕ) (x n : ℕ) → ((j : ℕ) → j ≤ n → f j % p ≡ f' j % p) → horner f x n % p ≡ horner f' x n % p
  horner_congruent f f' x zero same = same 0 (omega arith)
  horner_congruent f f' x (suc n) same =
      add_congruent p (x * horner f x n) (x * horner f' x n) (f (suc n)) (f' (suc n))
      (mul_congruent p x x (horner f x n) (horner f' x n) refl (horner_congruent f f' x n (λ j l. same j (omega arith)))) (same (suc n) (omega arith))

  -- The leading coefficient is congruent to 1.
  pub leading_congruent : (rs : List ℕ) → coefficient p rs 0 % p ≡ 1 % p
  leading_congruent rs = ap (λ (z : ℕ). z % p) (leading_is_one p rs)

  -- What is congruent to the coefficients of a product has the product's value modulo p.
  pub value_is_product : (f : ℕ → ℕ) (rs : List ℕ) (x n : ℕ) → n ≡ length rs → ((k : ℕ) → k ≤ n → f k % p ≡ coefficient p rs k % p)
      → horner f x n % p ≡ product p rs x % p
  value_is_product f rs x n e same =
      horner_congruent f (coefficient p rs) x n same ∙ ap (λ (z : ℕ). horner (coefficient p rs) x z % p) e
      ∙ ap (λ (z : ℕ). z % p) (horner_is_product p rs x)

-- ---- solutions of the recurrence

module _ (p : ℕ) (P : IsPrime p) (rs : List ℕ) (below : AllBelow p rs) (solution sums : ℕ → ℕ) (n : ℕ) (small : n < p)
    (leading : solution 0 % p ≡ 1 % p)
    (solves : (k : ℕ) → 0 < k → k ≤ n → (k * solution k + convolution solution sums k) % p ≡ 0)
    (power_sums : (i : ℕ) → 0 < i → i ≤ n → sums i % p ≡ power_sum rs i % p) where
  coefficients_up_to : (m k : ℕ) → k ≤ m → k ≤ n → solution k % p ≡ coefficient p rs k % p
  coefficients_up_to zero zero u v = leading ∙ sym (leading_congruent p rs)
  coefficients_up_to (suc m) zero u v = leading ∙ sym (leading_congruent p rs)
  coefficients_up_to zero (suc k) u v = absurd (omega arith)
  coefficients_up_to (suc m) (suc k) u v =
      cancel_mul p P (suc k) (solution (suc k)) (coefficient p rs (suc k)) (omega arith) (omega arith)
      (complement_congruent p (suc k * solution (suc k)) (suc k * coefficient p rs (suc k)) (convolution solution sums (suc k))
      (convolution (coefficient p rs) (power_sum rs) (suc k))
      (convolution_congruent p solution (coefficient p rs) sums (power_sum rs) (suc k)
      (λ j l. coefficients_up_to m j (omega arith) (omega arith)) (λ i l w. power_sums i l (omega arith)))
      (solves (suc k) (omega arith) v) (newton_identity p rs below (suc k)))

  -- What solves Newton's recurrence from a list's power sums is congruent to the list's coefficients.
  pub solution_is_coefficients : (k : ℕ) → k ≤ n → solution k % p ≡ coefficient p rs k % p
  solution_is_coefficients k l = coefficients_up_to k k (le_refl k) l

  -- The value of such a solution at a residue is 0 modulo p exactly where the residue is a member.
  pub zero_exactly_at_members : n ≡ length rs → (x : ℕ) → x < p → (horner solution x n % p ≡ 0) ↔ Memᴰ x rs
  zero_exactly_at_members e x l = (λ z. root_is_member p P rs x below l (sym value ∙ z), λ m. value ∙ member_is_root p below m)
    where
      value : horner solution x n % p ≡ product p rs x % p
      value = value_is_product p solution rs x n e solution_is_coefficients

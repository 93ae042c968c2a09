-- The first n power sums modulo a prime above n determine the coefficients, and n residues up to their order.
-- Assumes nothing.
use Prim.Native.Nat.{ℕ, suc, ◌%◌, ◌^◌, ◌<◌, ◌≤◌}
use mathlib.Core.Path.{◌≡◌, refl, sym, ◌∙◌, ap}
use mathlib.Core.List.Permᴰ
use mathlib.Core.List.{List, [], ◌∷◌, Memᴰ, Permᴰ}
use native.Mathlib.Omega.{arith}
use lib.ListN.{length}
use Rattle.numbers.specs.Prime.{IsPrime}
use Rattle.numbers.proofs.Congruence.{cancel_add}
use Rattle.newton.specs.Members.{AllBelow}
use Rattle.newton.specs.PowerSum.{power_sum}
use Rattle.newton.specs.Polynomial.{coefficient}
use Rattle.newton.proofs.Newton.{newton_identity}
use Rattle.newton.proofs.Roots.{horner_is_product, member_is_root, root_is_member}
use Rattle.newton.proofs.Permutation.{extract, length_permuted, power_sum_permuted, all_below_permuted}
use Rattle.newton.proofs.Recurrence.{leading_congruent, value_is_product, solution_is_coefficients}

-- The power sums 1 to n of two lists are congruent.
abbrev SameSums : ℕ → ℕ → List ℕ → List ℕ → Type 0
SameSums p n rs ts = (i : ℕ) → 0 < i → i ≤ n → power_sum rs i % p ≡ power_sum ts i % p

module _ (p : ℕ) (P : IsPrime p) where
  -- Lists with congruent power sums 1 to n have congruent coefficients 0 to n.
  pub sums_determine_coefficients : (rs ts : List ℕ) (n : ℕ) → AllBelow p rs → AllBelow p ts → n < p
      → ((i : ℕ) → 0 < i → i ≤ n → power_sum rs i % p ≡ power_sum ts i % p) → (k : ℕ) → k ≤ n → coefficient p rs k % p ≡ coefficient p ts k % p
  sums_determine_coefficients rs ts n below-rs below-ts small same =
      solution_is_coefficients p P ts below-ts (coefficient p rs) (power_sum rs) n small (leading_congruent p rs) (λ k l u. newton_identity p rs below-rs k) same

  first_is_member : (r : ℕ) (rs ts : List ℕ) → AllBelow p (r ∷ rs) → AllBelow p ts → length ts ≡ suc (length rs) → suc (length rs) < p
      → SameSums p (suc (length rs)) (r ∷ rs) ts → Memᴰ r ts
  first_is_member r rs ts below-rs below-ts e small same =
      root_is_member p P ts r below-ts below-rs.0
      (sym (value_is_product p (coefficient p (r ∷ rs)) ts r (suc (length rs)) (sym e)
      (sums_determine_coefficients (r ∷ rs) ts (suc (length rs)) below-rs below-ts small same))
      ∙ ap (λ (z : ℕ). z % p) (horner_is_product p (r ∷ rs) r) ∙ member_is_root p {rs = r ∷ rs} below-rs (Memᴰ.head refl))

  -- Two lists of n residues, n below p, with congruent power sums 1 to n are permutations of each other.
  pub sums_determine_members : (rs ts : List ℕ) → AllBelow p rs → AllBelow p ts → length ts ≡ length rs → length rs < p
      → ((i : ℕ) → 0 < i → i ≤ length rs → power_sum rs i % p ≡ power_sum ts i % p) → Permᴰ rs ts
  sums_determine_members [] [] below-rs below-ts e small same = Permᴰ.nil
  sums_determine_members [] (t ∷ ts) below-rs below-ts e small same = absurd (omega arith)
  sums_determine_members (r ∷ rs) ts below-rs below-ts e small same =
      without (extract r ts (first_is_member r rs ts below-rs below-ts e small same)) (sums_determine_members rs)
    where
      without : (rest : List ℕ) × Permᴰ ts (r ∷ rest)
          → ((ts : List ℕ) → AllBelow p rs → AllBelow p ts → length ts ≡ length rs → length rs < p → SameSums p (length rs) rs ts → Permᴰ rs ts)
          → Permᴰ (r ∷ rs) ts
      without x later =
          Permᴰ.trans
          (Permᴰ.cons refl (later x.0 below-rs.1 (all_below_permuted p x.1 below-ts).1 (omega (arith, length_permuted x.1))
          (omega arith) others))
          (Permᴰ.symm x.1)
        where
          others : SameSums p (length rs) rs x.0
          others i l u =
              cancel_add p (r ^ i) (power_sum rs i) (power_sum x.0 i) (same i l (omega arith) ∙ ap (λ (z : ℕ). z % p) (power_sum_permuted i x.1))

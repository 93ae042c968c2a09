-- The value of coefficients by Horner's rule: a loop over them, begun with the sum of the point and the first.
-- Assumes nothing.
use Prim.Native.Nat.{ℕ, ◌+◌, ◌*◌, ◌%◌, ◌≤◌, ◌<◌}
use mathlib.Core.Path.{◌≡◌, refl, sym, ◌∙◌, ap}
use mathlib.Core.List.{List, [], ◌∷◌}
use native.Mathlib.Nat.{mul-one, mod-mod, mul_comm, pow-zero}
use native.Mathlib.Numerals.{add-one}
use native.Mathlib.Omega.{arith}
use lib.ListN.{length, get_or}
use Rattle.numbers.proofs.Congruence.{add_congruent, mul_congruent}
use Rattle.newton.specs.Polynomial.{horner, entry}
use Rattle.rules.specs.Kind.{Kind}
use Rattle.rules.specs.Field.{residue, plus}
use Rattle.rules.specs.Decode.{evaluate}
use Rattle.rules.proofs.Recurrence.{evaluate_as_horner}

-- With the first k coefficients, the result is their Horner's value.
pub record ValueSoFar (K : Kind) (cs : List ℕ) (c result k : ℕ) : Type 0 where
  pub within : k ≤ length cs
  pub value : result ≡ horner (entry (1 ∷ cs)) (residue K c) k % K.modulus

module _ (K : Kind) (cs : List ℕ) (c : ℕ) where
  -- The point and the first coefficient: a step without a multiplication.
  pub horner_start : {result : ℕ} → 1 ≤ length cs → result ≡ plus K c (residue K (get_or cs 0 0)) → ValueSoFar K cs c result 1
  horner_start l e = record {
    within = l;
    value = e ∙ add_congruent K.modulus c (residue K c * 1) (residue K (get_or cs 0 0)) (get_or cs 0 0)
        (sym (ap (λ (z : ℕ). z % K.modulus) (mul-one (residue K c)) ∙ mod-mod c K.modulus)) (mod-mod (get_or cs 0 0) K.modulus);
  }

  -- One coefficient more.
  pub horner_turn : {result r k : ℕ} → ValueSoFar K cs c result k → k < length cs → r ≡ plus K (result * c) (get_or cs k 0) → ValueSoFar K cs c r (k + 1)
  horner_turn {result} {r} {k} i l e = record {
    within = omega arith;
    value = rw add-one (e ∙ add_congruent K.modulus (result * c) (residue K c * before) (get_or cs k 0) (get_or cs k 0)
        (mul_congruent K.modulus result before c (residue K c) (ap (λ (z : ℕ). z % K.modulus) i.value ∙ mod-mod before K.modulus)
        (sym (mod-mod c K.modulus))
        ∙ ap (λ (z : ℕ). z % K.modulus) (mul_comm before (residue K c))) refl);
  }
    where
      before : ℕ
      before = horner (entry (1 ∷ cs)) (residue K c) k

  -- With the last one it is the value.
  pub horner_done : {result k : ℕ} → ValueSoFar K cs c result k → length cs ≤ k → result ≡ evaluate K cs c
  horner_done {result} {k} i l =
      let e : k ≡ length cs = omega arith in
      i.value ∙ ap (λ (n : ℕ). horner (entry (1 ∷ cs)) (residue K c) n % K.modulus) e ∙ sym (evaluate_as_horner K cs c)

-- Without coefficients the value is 1.
pub evaluate_empty : (K : Kind) (cs : List ℕ) (c : ℕ) → length cs ≡ 0 → residue K 1 ≡ evaluate K cs c
unfolding evaluate
evaluate_empty K [] c e = ap (λ (z : ℕ). (z + 0) % K.modulus) (sym (pow-zero (residue K c)))
evaluate_empty K (a ∷ cs) c e = omega arith

-- The value at a code's residue is that at the code.
pub evaluate_residue : (K : Kind) (cs : List ℕ) (c : ℕ) → evaluate K cs (residue K c) ≡ evaluate K cs c
unfolding evaluate
evaluate_residue K cs c = rw (mod-mod c K.modulus)

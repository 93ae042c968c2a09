-- What a test of two words tells of their numbers, where the second's is known.
-- Assumes nothing.
use Rattle.std.proofs.Common.{◌≡◌, ℕ, Bool, true, false, not, eqb, sym, ap, ◌∙◌}
use Rattle.rules.proofs.Tests.{passed, failed}

module _ {same : Bool} (x : ℕ) {y n : ℕ} (law : same ≡ eqb x y) (second : y ≡ n) where
  -- A test for being equal.
  pub equal : {answer b : Bool} → answer ≡ same → answer ≡ b → eqb x n ≡ b
  equal e t = ap (eqb x) (sym second) ∙ sym law ∙ sym e ∙ t

  -- A test for being different that fails.
  pub not_different : {answer : Bool} → answer ≡ not same → answer ≡ false → eqb x n ≡ true
  not_different e t = ap (eqb x) (sym second) ∙ passed law (sym e ∙ t)

  -- One that passes.
  pub different : {answer : Bool} → answer ≡ not same → answer ≡ true → eqb x n ≡ false
  different e t = ap (eqb x) (sym second) ∙ failed law (sym e ∙ t)

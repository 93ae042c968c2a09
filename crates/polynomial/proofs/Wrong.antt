-- The value of a polynomial, with refusals and without, is determined over any width; two wrong answers of each are not allowed at both widths, and
-- refusing everything is not.
-- Assumes nothing.
use Prim.Native.Nat.{ℕ, ◌-◌}
use mathlib.Core.Path.{refl}
use mathlib.Core.List.{List, [], ◌∷◌}
use contract.Lifetimes.{Lfts}
use denote.Ref.{Bor}
use denote.RattleType.{RattleType}
use denote.Builtin.{u16, u32}
use Rattle.std.specs.Prelude.{Result, Ok, Err}
use Rattle.numbers.specs.Table.{every}
use Rattle.lent.specs.declared.refusal.Refusal.{Refusal}
use Rattle.lent.specs.Refusals.{refusal_or_none, refusal_numbered}
use Rattle.modint.specs.declared.Code.{Code}
use Rattle.modint.specs.declared.Residue.{Residue}
use Rattle.modint.proofs.Blocks.{Word, word16, word32, Passed, passing, Numbers, AtBoth}
use Rattle.rules.specs.Decode as decoding
use Rattle.rules.specs.Calls as calls
use Rattle.rules.specs.Determines.{Determines, RefusesBoth, MustAnswer}
use Rattle.rules.proofs.Determined.{lent, by_equation, both_differ, must_answer}
use Rattle.polynomial.proofs.evaluator.value.Reads as value
use Rattle.polynomial.proofs.evaluator.eval.Reads as eval

-- The two coefficients whose roots are 10 and 12, and the code 1.
abbrev pub two_coefficients : Numbers → List ℕ
two_coefficients w = (w.prime - 22) ∷ 120 ∷ []

abbrev pub one : Code ℕ
one = record { 0 = 1 }

-- The residue with this number, and what is read off one.
abbrev pub wrap : ℕ → Residue ℕ
wrap n = record { 0 = n }

abbrev pub val : Residue ℕ → ℕ
val r = r.0

-- The number of a refusal.
abbrev pub refusal : Result (Residue ℕ) Refusal → ℕ
refusal = refusal_or_none

module _ {T : RattleType} (w : Word T) (p : Passed T) (κs : Lfts 2) (coeffs coeffs₁ : Bor (List T.Denot)) where
  -- The value of coefficients at a residue has one answer.
  pub value_determined : (x : Residue T.Denot) → Determines (λ r. passing w p value.Post κs (coeffs, (x, tt)) r (coeffs₁, (x, tt)))
  value_determined x = by_equation _

  -- The value of coefficients at a code, or its refusal, has one answer.
  pub eval_determined : (x : Code T.Denot) → Determines (λ r. passing w p eval.Post κs (coeffs, (x, tt)) r (coeffs₁, (x, tt)))
  eval_determined x = by_equation _

module _ (p : Passed u16) (q : Passed u32) (κs : Lfts 2) (coeffs₁ : Bor (List ℕ)) where
  -- At 1, the leading term is left out, or the constant one.
  pub value_wrong : AtBoth (passing word16 p value.Post) (passing word32 q value.Post)
      (λ post w. RefusesBoth (λ r. post κs (lent (two_coefficients w), (wrap 1, tt)) r (coeffs₁, (wrap 1, tt))) (wrap 98) (wrap (w.prime - 21)))
  unfolding decoding.evaluate
  value_wrong = (both_differ val _ _ refl refl, both_differ val _ _ refl refl)

  -- No coefficient is refused by 8, or has the value 1.
  pub eval_wrong : AtBoth (passing word16 p eval.Post) (passing word32 q eval.Post)
      (λ post _. RefusesBoth (λ r. post κs (lent [], (one, tt)) r (coeffs₁, (one, tt))) (Err (refusal_numbered 8)) (Ok (wrap 1)))
  unfolding calls.evaluate
  eval_wrong = (both_differ refusal _ _ refl refl, both_differ refusal _ _ refl refl)

  -- The value of two coefficients at 1 is not refused.
  pub eval_must_answer : AtBoth (passing word16 p eval.Post) (passing word32 q eval.Post)
      (λ post w. MustAnswer refusal (λ r. post κs (lent (two_coefficients w), (one, tt)) r (coeffs₁, (one, tt))))
  unfolding calls.evaluate every
  eval_must_answer = (must_answer refusal refl, must_answer refusal refl)

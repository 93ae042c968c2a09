-- The value with one reduction determines its answer, allows neither of two wrong ones, and may not be refused where none is due; and it is the plain value.
-- Assumes nothing.
use Prim.Native.Nat.{ℕ, ◌+◌, ◌≤◌}
use mathlib.Core.Path.{◌≡◌, refl, sym, ◌∙◌, ap}
use mathlib.Core.List.{List}
use lib.ListN.{length, replicate}
use contract.Lifetimes.{Lfts}
use denote.Ref.{Bor}
use denote.Builtin.{u16}
use Rattle.std.specs.Prelude.{Result, Ok, Err}
use Rattle.numbers.specs.Table.{every}
use Rattle.lent.specs.declared.refusal.Refusal.{Refusal}
use Rattle.lent.specs.Refusals.{refusal_numbered, answered}
use Rattle.modint.specs.declared.Code.{Code}
use Rattle.modint.specs.declared.Residue.{Residue}
use Rattle.modint.proofs.Blocks.{word16, Passed, passing, numbers16}
use Rattle.rules.specs.Kind.{kind16}
use Rattle.rules.specs.Decode as decoding
use Rattle.rules.specs.Calls as calls
use Rattle.rules.specs.Determines.{Determines, RefusesBoth, MustAnswer}
use Rattle.rules.proofs.Determined.{lent, by_equation, both_differ, must_answer}
use Rattle.rules.proofs.Outcomes.{once_plain}
use Rattle.polynomial.proofs.Wrong.{two_coefficients, one, wrap, val, refusal}
use Rattle.polynomial.proofs.evaluator.eval.Reads as eval
use Rattle.polynomial.proofs.one_reduction.eval_precompute.Reads as eval_precompute

-- The value that is answered, 0 for a refusal.
abbrev value_or_none : Result (Residue ℕ) Refusal → ℕ
value_or_none (Ok r) = val r
value_or_none (Err refusal) = 0

module _ (κs : Lfts 1) (coeffs₁ : Bor (List ℕ)) where
  -- It has one answer.
  pub eval_precompute_determined : (coeffs : Bor (List ℕ)) (x : Code ℕ)
      → Determines (λ r. eval_precompute.Post κs (coeffs, (x, tt)) r (coeffs₁, (x, tt)))
  eval_precompute_determined coeffs x = by_equation _

  -- At 1, the leading power is left out, or the first product.
  pub eval_precompute_wrong : RefusesBoth (λ r. eval_precompute.Post κs (lent (two_coefficients numbers16), (one, tt)) r (coeffs₁, (one, tt)))
      (Ok (wrap 98)) (Ok (wrap 121))
  unfolding every calls.evaluate_once calls.evaluate decoding.evaluate
  eval_precompute_wrong = both_differ value_or_none _ _ refl refl

  -- One coefficient more than a sketch has sums is accepted, or refused by 8 before it is by 4.
  pub too_many_wrong : RefusesBoth
      (λ r. eval_precompute.Post κs (lent (replicate (kind16.greatest + 1) kind16.modulus), (one, tt)) r (coeffs₁, (one, tt)))
      (Ok (wrap 1)) (Err (refusal_numbered 8))
  unfolding calls.evaluate_once
  too_many_wrong = both_differ refusal _ _ refl refl

  -- The value of two coefficients at 1 is not refused.
  pub eval_precompute_must_answer : MustAnswer refusal
      (λ r. eval_precompute.Post κs (lent (two_coefficients numbers16), (one, tt)) r (coeffs₁, (one, tt)))
  unfolding calls.evaluate_once calls.evaluate every
  eval_precompute_must_answer = must_answer refusal refl

-- Of as many coefficients as a sketch has sums, or fewer, it answers what plain evaluation answers.
pub eval_precompute_plain : (p : Passed u16) (κs : Lfts 1) (κs' : Lfts 2) (coeffs coeffs₁ coeffs₂ : Bor (List ℕ)) (x : Code ℕ)
    (r r' : Result (Residue ℕ) Refusal) → length coeffs.now ≤ kind16.greatest → eval_precompute.Post κs (coeffs, (x, tt)) r (coeffs₁, (x, tt))
    → passing word16 p eval.Post κs' (coeffs, (x, tt)) r' (coeffs₂, (x, tt)) → r ≡ r'
eval_precompute_plain p κs κs' coeffs coeffs₁ coeffs₂ x r r' few once plain = once ∙ ap (answered wrap) (once_plain kind16 coeffs.now x.0 few) ∙ sym plain

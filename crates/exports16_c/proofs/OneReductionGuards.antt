-- The exported value with one reduction determines its answer, allows neither of two wrong ones, and may not be refused where none is due.
-- Assumes nothing.
use Rattle.std.proofs.Common.{ℕ, ◌+◌, List, [], ◌∷◌, replicate, refl, Bor}
use contract.Lifetimes.{Lfts}
use Rattle.numbers.specs.Table.{every}
use Rattle.rules.specs.Kind.{kind16}
use Rattle.rules.specs.Decode as decoding
use Rattle.rules.specs.Calls as calls
use Rattle.rules.specs.Calls.{refused, given}
use Rattle.rules.specs.Determines.{Determines, RefusesBoth, MustAnswer}
use Rattle.rules.proofs.Determined.{lent, by_equation, both_differ, must_answer}
use Rattle.exports16_c.specs.declared.evaluator.Evaluated.{Evaluated}
use Rattle.exports16_c.specs.Answers.{valued}
use Rattle.exports16_c.proofs.one_reduction.eddy16_eval_precompute.Reads as eval_precompute

-- The number of a refusal.
abbrev refusal : Evaluated → ℕ
refusal r = r.refusal

module _ (κs : Lfts 1) (coeffs₁ : Bor (List ℕ)) where
  -- It has one answer.
  pub eval_precompute_determined : (coeffs : Bor (List ℕ)) (x : ℕ) → Determines (λ r. eval_precompute.Post κs (coeffs, (x, tt)) r (coeffs₁, (x, tt)))
  eval_precompute_determined coeffs x = by_equation _

  -- The code for the value at it, or a refusal.
  pub eval_precompute_wrong : RefusesBoth (λ r. eval_precompute.Post κs (lent (1 ∷ []), (3, tt)) r (coeffs₁, (3, tt))) (valued (given 3)) (valued (refused 8))
  unfolding every calls.evaluate_once calls.evaluate decoding.evaluate
  eval_precompute_wrong = both_differ (λ (r : Evaluated). r.value) _ _ refl refl

  -- One coefficient more than a sketch has sums is accepted, or refused by 8 before it is by 4.
  pub too_many_wrong : RefusesBoth (λ r. eval_precompute.Post κs (lent (replicate (kind16.greatest + 1) kind16.modulus), (1, tt)) r (coeffs₁, (1, tt)))
      (valued (given 1)) (valued (refused 8))
  unfolding calls.evaluate_once
  too_many_wrong = both_differ refusal _ _ refl refl

  -- The value of one coefficient at the code 3 is not refused.
  pub eval_precompute_must_answer : MustAnswer refusal (λ r. eval_precompute.Post κs (lent (1 ∷ []), (3, tt)) r (coeffs₁, (3, tt)))
  unfolding every calls.evaluate_once calls.evaluate decoding.evaluate
  eval_precompute_must_answer = must_answer refusal refl

-- The value with one reduction determines its answer, allows neither of two wrong ones, and may not be refused where none is due.
-- Assumes nothing.
use Rattle.std.proofs.Common.{ℕ, ◌+◌, List, [], ◌∷◌, replicate, refl, Bor}
use Rattle.std.specs.Prelude.{Ok, Err}
use contract.Lifetimes.{Lfts}
use Rattle.numbers.specs.Table.{every}
use Rattle.rules.specs.Kind.{kind16}
use Rattle.rules.specs.Decode as decoding
use Rattle.rules.specs.Calls as calls
use Rattle.rules.specs.Determines.{Determines, RefusesBoth, MustAnswer}
use Rattle.rules.proofs.Determined.{lent, by_equation, both_differ, must_answer}
use Rattle.lent.specs.declared.refusal.Refusal.TheVariants.{NotBelowPrime}
use Rattle.lent.specs.Refusals.{refusal_or_none}
use Rattle.exports.proofs.Wrong.{wrap, value_or_none}
use Rattle.exports.proofs.one_reduction.eval_precompute.Reads as eval_precompute

module _ (κs : Lfts 1) (coeffs₁ : Bor (List ℕ)) where
  -- It has one answer.
  pub eval_precompute_determined : (coeffs : Bor (List ℕ)) (x : ℕ) → Determines (λ r. eval_precompute.Post κs (coeffs, (x, tt)) r (coeffs₁, (x, tt)))
  eval_precompute_determined coeffs x = by_equation _

  -- The code for the value at it, or a refusal.
  pub eval_precompute_wrong : RefusesBoth (λ r. eval_precompute.Post κs (lent (1 ∷ []), (3, tt)) r (coeffs₁, (3, tt))) (Ok (wrap 3)) (Err NotBelowPrime)
  unfolding every calls.evaluate_once calls.evaluate decoding.evaluate
  eval_precompute_wrong = both_differ value_or_none _ _ refl refl

  -- One coefficient more than a sketch has sums is accepted, or refused by 8 before it is by 4.
  pub too_many_wrong : RefusesBoth (λ r. eval_precompute.Post κs (lent (replicate (kind16.greatest + 1) kind16.modulus), (1, tt)) r (coeffs₁, (1, tt)))
      (Ok (wrap 1)) (Err NotBelowPrime)
  unfolding calls.evaluate_once
  too_many_wrong = both_differ refusal_or_none _ _ refl refl

  -- The value of one coefficient at the code 3 is not refused.
  pub eval_precompute_must_answer : MustAnswer refusal_or_none (λ r. eval_precompute.Post κs (lent (1 ∷ []), (3, tt)) r (coeffs₁, (3, tt)))
  unfolding every calls.evaluate_once calls.evaluate decoding.evaluate
  eval_precompute_must_answer = must_answer refusal_or_none refl

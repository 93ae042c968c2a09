-- Horner's rule: the value with the first coefficients, then with one more.
use Rattle.std.proofs.Common.{◌+◌}
use Rattle.rules.proofs.Evaluate.{ValueSoFar}
use Rattle.modint.specs.Answers.{val}
use Rattle.polynomial.proofs.evaluator.value.Given as goal

abbrev pub invariant-loop-coeff : goal.invariant-loop-coeff
invariant-loop-coeff g l = let w = g.W.Word.width in ValueSoFar w.kind (w.nums l.coeffs) (val w l.x) (val w l.result) (l.coeff-index + 1)

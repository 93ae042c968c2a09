-- The first coefficient, and then one a turn for the whole block.
use Rattle.std.proofs.Common.{◌+◌}
use Rattle.rules.proofs.Listing.{Valuing}
use Rattle.polynomial.proofs.evaluator.put_values.Given as goal

abbrev pub invariant-loop-coeff : goal.invariant-loop-coeff
invariant-loop-coeff g l = let w = g.W.Word.width in Valuing w.kind (w.nums l.coeffs) (w.nums l.log) (w.nums l.values) (l.coeff-index + 1)

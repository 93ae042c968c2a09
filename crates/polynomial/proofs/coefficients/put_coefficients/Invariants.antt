-- The first coefficient, and then one a turn from those that stand in the buffer.
use Rattle.std.proofs.Common.{◌≤◌, length}
use Rattle.rules.proofs.Newton.{Solving}
use Rattle.polynomial.proofs.coefficients.put_coefficients.Given as goal

abbrev pub invariant-loop-i : goal.invariant-loop-i
invariant-loop-i g l =
    let w = g.W.Word.width in
    Solving w.kind (w.nums l.sums) l.n (w.nums l.initial.coeffs) (w.nums l.coeffs) l.i × (l.n ≤ length (w.nums l.sums))

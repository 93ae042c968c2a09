-- One product a turn.
use Rattle.std.proofs.Common.{ℕ, ◌*◌, ◌-◌, get_or}
use Rattle.rules.proofs.Newton.{Summing}
use Rattle.polynomial.proofs.coefficients.newton_sum.Given as goal

abbrev pub invariant-loop-j : goal.invariant-loop-j
invariant-loop-j g l =
    let w = g.W.Word.width in
    Summing w.kind (λ (j : ℕ). get_or (w.nums l.sums) j 0 * get_or (w.nums l.coeffs) (l.i - j - 1) 0) l.i (w.num l.total) l.j

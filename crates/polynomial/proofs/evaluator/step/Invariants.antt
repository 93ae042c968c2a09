-- One entry a turn.
use Rattle.std.proofs.Common.{ℕ, ◌*◌, length, get_or}
use Rattle.rules.specs.Field.{plus}
use Rattle.rules.proofs.Changing.{Changing}
use Rattle.polynomial.proofs.evaluator.step.Given as goal

abbrev pub invariant-loop-j : goal.invariant-loop-j
invariant-loop-j g l =
    let w = g.W.Word.width in
    Changing (λ (k v : ℕ). plus w.kind (v * get_or (w.nums l.log) k 0) (w.num l.a)) 0 (length l.log) (w.nums l.initial.values) (w.nums l.values) l.j

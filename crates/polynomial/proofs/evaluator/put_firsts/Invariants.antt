-- One entry a turn.
use Rattle.std.proofs.Common.{ℕ, length}
use Rattle.rules.specs.Field.{plus}
use Rattle.rules.proofs.Mapping.{Mapping}
use Rattle.polynomial.proofs.evaluator.put_firsts.Given as goal

abbrev pub invariant-loop-j : goal.invariant-loop-j
invariant-loop-j g l =
    let w = g.W.Word.width in
    Mapping (λ (c : ℕ). plus w.kind c (w.num l.a)) (length l.log) (w.nums l.log) (w.nums l.initial.values) (w.nums l.values) l.j

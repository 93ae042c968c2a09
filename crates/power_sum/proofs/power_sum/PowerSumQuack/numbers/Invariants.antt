-- One place a turn.
use Rattle.modint.specs.Answers.{val}
use Rattle.rules.proofs.Mapping.{Mapping}
use Rattle.power_sum.proofs.power_sum.PowerSumQuack.numbers.Given as goal

abbrev pub invariant-loop-k : goal.invariant-loop-k
invariant-loop-k g l = let w = g.W.Word.width in Mapping (val w) 32 l.residue-items (w.nums l.initial.numbers) (w.nums l.numbers) l.k

-- One place a turn.
use Rattle.modint.specs.Answers.{wrap}
use Rattle.rules.proofs.Mapping.{Mapping}
use Rattle.power_sum.proofs.power_sum.residues.Given as goal

abbrev pub invariant-loop-k : goal.invariant-loop-k
invariant-loop-k g l = let w = g.W.Word.width in Mapping (wrap w) 32 (w.nums l.number-items) l.initial.residues l.residues l.k

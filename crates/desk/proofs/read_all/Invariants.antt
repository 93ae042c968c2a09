-- Each turn leaves a reading that some bytes lead to.
-- Assumes nothing.
use Rattle.desk.specs.Input.{Came}
use Rattle.desk.proofs.read_all.Given as goal

abbrev pub invariant-loop : goal.invariant-loop
invariant-loop g l = Came l.reading l.log l.got

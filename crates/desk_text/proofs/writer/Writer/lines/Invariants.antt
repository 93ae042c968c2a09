-- After each number, the lines so far are pushed.
use Rattle.std.proofs.Common.{take}
use Rattle.desk_rules.specs.Text.{lines}
use Rattle.desk_text.specs.Writer.{Pushed}
use Rattle.desk_text.proofs.writer.Writer.lines.Given as goal

abbrev pub invariant-loop-number : goal.invariant-loop-number
invariant-loop-number l = Pushed l.fn.self (lines l.word (take l.number-index l.numbers)) l.self

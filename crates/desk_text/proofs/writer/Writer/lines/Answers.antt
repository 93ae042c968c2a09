-- After each number, the lines so far are pushed.
use Rattle.std.proofs.Common.{rules, sym, arith}
use Rattle.desk_rules.specs.Text.{lines}
use Rattle.desk_rules.proofs.Text.{lines_more}
use Rattle.desk_text.proofs.Digits.{line_printed}
use Rattle.desk_text.proofs.Pushes.{pushed_none, pushed_then, pushed_as}
use Rattle.desk_text.proofs.writer.Writer.lines.Goals as goal

pub loop-number-init : goal.loop-number-init
unfolding lines
loop-number-init c = pushed_none c.args.self.now (search rules) (search rules)

pub loop-number-preserved : goal.loop-number-preserved
loop-number-preserved c =
    pushed_as (pushed_then c.loop-number.invariant (pushed_as c.line.ensures (line_printed c.args.word.now _ (omega (arith, c.type_inv.numbers c.loop-number.number-index)))))
    (sym (lines_more c.args.word.now c.args.numbers.now c.loop-number.number-index c.loop-number-test.true))

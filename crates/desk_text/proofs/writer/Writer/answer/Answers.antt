-- A refusal is one line, with its number.
use Rattle.std.proofs.Common.{rules}
use Rattle.desk_rules.specs.Text.{printed, refusal_word}
use Rattle.desk_text.proofs.Digits.{line_printed}
use Rattle.desk_text.proofs.Pushes.{pushed_as}
use Rattle.desk_text.proofs.writer.Writer.answer.Goals as goal

pub returns-in-Err : goal.returns-in-Err
unfolding printed
returns-in-Err c =
    rw c.in-Err.is (pushed_as c.line.ensures (line_printed refusal_word c.in-Err.number (search rules)))

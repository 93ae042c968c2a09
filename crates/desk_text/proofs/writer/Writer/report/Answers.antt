-- The parts of the text, one behind the other.
use Rattle.std.proofs.Common.{sym, rules, ap}
use Rattle.std.specs.Fmt as std
use Rattle.desk_rules.specs.Text.{count_word, lines}
use Rattle.desk_text.specs.Writer.{Pushed, line_of}
use Rattle.desk_text.proofs.Pushes.{pushed_as, report_pushed, word_of_surplus, word_of_missing}
use Rattle.desk_text.proofs.writer.Writer.report.Goals as goal

pub returns-then-report-lt0 : goal.returns-then-report-lt0
returns-then-report-lt0 c =
    let r = c.args.report in
    let third : Pushed c.line-2.new.self (line_of count_word (std.signed_decimal r.count)) c.line-3.new.self = search rules in
    report_pushed r.threshold r.count r.found.now (search rules) (search rules) (search rules) c.line.ensures c.line-2.ensures third c.line-4.ensures
    (pushed_as c.lines.ensures (ap (λ word. lines word r.found.now) (sym (word_of_surplus r.count (search rules)))))

pub returns-else-report-lt0 : goal.returns-else-report-lt0
returns-else-report-lt0 c =
    let r = c.args.report in
    let third : Pushed c.line-2.new.self (line_of count_word (std.signed_decimal r.count)) c.line-3.new.self = search rules in
    report_pushed r.threshold r.count r.found.now (search rules) (search rules) (search rules) c.line.ensures c.line-2.ensures third c.line-4.ensures
    (pushed_as c.lines-else-report-lt0.ensures (ap (λ word. lines word r.found.now) (sym (word_of_missing r.count (search rules)))))

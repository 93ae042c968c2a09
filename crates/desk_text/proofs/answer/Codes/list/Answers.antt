-- By the sign of the count.
use Rattle.std.proofs.Common.{rules, sym, ap, ◌∙◌, length}
use Rattle.lent.specs.Refusals.{listed}
use Rattle.desk_reader.specs.Sketches.{signed_count_of}
use Rattle.desk_text.proofs.Decision.{lists_surplus, lists_missing}
use Rattle.desk_text.proofs.answer.Codes.list.Goals as goal

pub returns-then-signed_count-lt0-clause-answer : goal.returns-then-signed_count-lt0-clause-answer
returns-then-signed_count-lt0-clause-answer c =
    let a = c.args in
    c.decode_surplus_with_log.ensures.answer
    ∙ ap listed (sym (lists_surplus a.sketch a.self.log.now a.self.got.now (length a.found.now) (signed_count_of a.sketch) (search rules)))

pub returns-else-signed_count-lt0-clause-answer : goal.returns-else-signed_count-lt0-clause-answer
returns-else-signed_count-lt0-clause-answer c =
    let a = c.args in
    c.decode_with_log.ensures.answer
    ∙ ap listed (sym (lists_missing a.sketch a.self.log.now a.self.got.now (length a.found.now) (signed_count_of a.sketch) (search rules)))

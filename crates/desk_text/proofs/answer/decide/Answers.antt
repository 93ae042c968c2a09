-- Each refusal as it comes.
use Rattle.std.proofs.Common.{rules, ◌≡◌, Err, length}
use Rattle.desk_rules.specs.Desk.{most_lines}
use Rattle.desk_reader.specs.Sketches.{built}
use Rattle.desk_text.specs.Answer.{difference_of}
use Rattle.desk_text.proofs.Decision.{difference_named, refused_by, told_refused}
use Rattle.desk_text.proofs.answer.decide.Goals as goal

pub returns-in_err-lacking : goal.returns-in_err-lacking
returns-in_err-lacking c =
    let e : c.from_residual.result ≡ Err c.in_err-lacking.field-0.0 = search rules in
    rw (e, refused_by built (difference_of c.args.desk) (difference_named c.args.desk) c.difference.ensures c.in_err-lacking.was)

pub returns-in_err-many : goal.returns-in_err-many
returns-in_err-many c =
    let e : c.from_residual-in_err-many.result ≡ Err c.in_err-many.field-0.0 = search rules in
    let places : length c.args.found.now ≡ most_lines = search rules in
    rw e
    (told_refused (difference_of c.args.desk) c.args.codes.log.now c.args.codes.got.now c.difference.ensures c.in_ok-lacking.was
    (rw places at c.list.ensures.answer) c.in_err-many.was)

-- The test, and then a fresh sketch less this one.
use Rattle.std.proofs.Common.{sym, ◌∙◌, rules}
use Rattle.rules.specs.Calls as calls
use Rattle.power_sum.specs.Answers.{negate_of}
use Rattle.power_sum.proofs.Checked.{passed, failed}
use Rattle.power_sum.proofs.Negated.{new_made, negate_subtracts}
use Rattle.power_sum.proofs.power_sum.PowerSumQuack.negate.Goals as goal

pub returns-in_err-checked : goal.returns-in_err-checked
unfolding negate_of calls.negate
returns-in_err-checked g c =
    let no = failed g.W.Word.width c.args.self c.from_residual.result c.checked.ensures c.in_err-checked.was c.from_residual.ensures in
    rw (no.1, no.0)

pub returns-in_err-new : goal.returns-in_err-new
returns-in_err-new g c =
    let w = g.W.Word.width in
    let s = c.args.self in
    let ok = passed w s c.checked.ensures c.in_ok-checked.was in
    let made = new_made w s (search rules) ok (search rules) in
    let p = sym c.in_err-new.was ∙ c.new.ensures ∙ made in
    cc

pub returns : goal.returns
returns g c =
    let w = g.W.Word.width in
    let s = c.args.self in
    let ok = passed w s c.checked.ensures c.in_ok-checked.was in
    c.sub.ensures ∙ negate_subtracts w s (search rules) ok (search rules) c.new.ensures c.in_ok-new.was

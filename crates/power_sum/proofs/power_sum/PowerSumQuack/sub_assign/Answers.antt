-- The tests of both sketches and of their thresholds, and then the difference.
use Rattle.std.proofs.Common.{eq-eqb}
use borrow.Author.Tests.{ne_eqb}
use denote.Memory.{lone}
use Rattle.rules.specs.Calls as calls
use Rattle.power_sum.specs.Answers.{sub_assign_of}
use Rattle.power_sum.proofs.Sizes.{sketch_fits}
use Rattle.power_sum.proofs.Checked.{passed, failed}
use Rattle.power_sum.proofs.power_sum.PowerSumQuack.sub_assign.Goals as goal

pub returns-in_err-checked : goal.returns-in_err-checked
unfolding sub_assign_of calls.sub_assign
returns-in_err-checked g c =
    let no = failed g.W.Word.width c.args.self c.from_residual.result c.checked.ensures c.in_err-checked.was c.from_residual.ensures in
    rw (no.1, no.0)

pub returns-in_err-checked-2 : goal.returns-in_err-checked-2
unfolding sub_assign_of calls.sub_assign
returns-in_err-checked-2 g c =
    let w = g.W.Word.width in
    let no = failed w c.args.rhs c.from_residual-in_err-checked-2.result c.checked-2.ensures c.in_err-checked-2.was c.from_residual-in_err-checked-2.ensures in
    rw (no.1, passed w c.args.self c.checked.ensures c.in_ok-checked.was, no.0)

pub returns-then-self-rhs : goal.returns-then-self-rhs
unfolding sub_assign_of calls.sub_assign
returns-then-self-rhs g c =
    let w = g.W.Word.width in
    rw (
      passed w c.args.self c.checked.ensures c.in_ok-checked.was,
      passed w c.args.rhs c.checked-2.ensures c.in_ok-checked-2.was,
      ne_eqb c.args.self.threshold c.args.rhs.threshold c.if-self-rhs.true,
    )

pub subtracted-requires : goal.subtracted-requires
subtracted-requires g c =
    let w = g.W.Word.width in
    let mine = passed w c.args.self c.checked.ensures c.in_ok-checked.was in
    (sketch_fits (lone g.row.W.mir) g.met.W.Word.small, rw mine (passed w c.args.rhs c.checked-2.ensures c.in_ok-checked-2.was))

pub returns : goal.returns
unfolding sub_assign_of calls.sub_assign
returns g c =
    let w = g.W.Word.width in
    rw (
      c.subtracted.ensures,
      passed w c.args.self c.checked.ensures c.in_ok-checked.was,
      passed w c.args.rhs c.checked-2.ensures c.in_ok-checked-2.was,
      eq-eqb c.args.self.threshold c.args.rhs.threshold c.if-self-rhs.false,
    )

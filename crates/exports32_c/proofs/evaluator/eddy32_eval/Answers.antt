-- The answer of the call, as C has it.
use Rattle.rules.specs.Kind.{kind32}
use Rattle.rules.specs.Calls.{evaluate}
use Rattle.rules.proofs.Outcomes.{evaluate_numbered}
use Rattle.exports32_c.proofs.Values.{value_handed}
use Rattle.exports32_c.proofs.evaluator.eddy32_eval.Goals as goal

pub returns : goal.returns
returns c =
    let o = evaluate kind32 c.args.coeffs.now c.args.x in
    value_handed o (evaluate_numbered kind32 c.args.coeffs.now c.args.x) c.eval.ensures c.from.ensures

-- The answer of the call, as C has it.
use Rattle.rules.specs.Kind.{kind16}
use Rattle.rules.specs.Calls.{evaluate_once}
use Rattle.rules.proofs.Outcomes.{evaluate_once_numbered}
use Rattle.exports16_c.proofs.Values.{value_handed}
use Rattle.exports16_c.proofs.one_reduction.eddy16_eval_precompute.Goals as goal

pub returns : goal.returns
returns c =
    let o = evaluate_once kind16 c.args.coeffs.now c.args.x in
    value_handed o (evaluate_once_numbered kind16 c.args.coeffs.now c.args.x) c.eval_precompute.ensures c.from.ensures

-- The two tests in the order of the refusals, and then the value at the code's residue.
use Rattle.std.proofs.Common.{◌≡◌, Ok, ap, sym, ◌∙◌, arith, length}
use Rattle.lent.specs.Refusals.{answered}
use Rattle.rules.specs.Field.{residue}
use Rattle.rules.specs.Decode.{evaluate}
use Rattle.rules.proofs.Evaluate.{evaluate_residue}
use Rattle.rules.proofs.Outcomes.{evaluate_none, evaluate_large, evaluate_given}
use Rattle.modint.specs.Answers.{val, wrap}
use Rattle.modint.proofs.Residues.{number}
use Rattle.modint.proofs.Width.{nums_length}
use Rattle.polynomial.proofs.Empty.{none, some}
use Rattle.polynomial.proofs.evaluator.eval.Goals as goal

pub returns-then-is_empty : goal.returns-then-is_empty
returns-then-is_empty g c =
    let w = g.W.Word.width in
    let cs = c.args.coeffs.now in
    let empty = none (length cs) c.is_empty.ensures c.if-is_empty.true in
    ap (answered (wrap w)) (sym (evaluate_none w.kind (w.nums cs) (w.num c.args.x.0) (omega (arith, nums_length w cs, empty))))

pub returns-then-not-all_below : goal.returns-then-not-all_below
returns-then-not-all_below g c =
    let w = g.W.Word.width in
    let cs = c.args.coeffs.now in
    let full = some (length cs) c.is_empty.ensures c.if-is_empty.false in
    let large = evaluate_large w.kind (w.nums cs) (w.num c.args.x.0) (omega (arith, nums_length w cs, full)) (sym c.all_below.ensures ∙ c.if-not-all_below.true) in
    ap (answered (wrap w)) (sym large)

pub returns : goal.returns
returns g c =
    let w = g.W.Word.width in
    let l = c.args.coeffs.now in
    let cs = w.nums l in
    let x = w.num c.args.x.0 in
    let full = some (length l) c.is_empty.ensures c.if-is_empty.false in
    let point : val w c.reduce.result ≡ residue w.kind x = number w c.reduce.ensures in
    let comes = evaluate_given w.kind cs x (omega (arith, nums_length w l, full)) (sym c.all_below.ensures ∙ c.if-not-all_below.false) in
    ap Ok (c.value.ensures ∙ ap (wrap w) (ap (evaluate w.kind cs) point ∙ evaluate_residue w.kind cs x)) ∙ ap (answered (wrap w)) (sym comes)

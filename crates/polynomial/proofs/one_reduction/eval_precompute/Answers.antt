-- The tests in the order of the refusals, and then the value at the code's residue, reduced once.
use Rattle.std.proofs.Common.{ℕ, ◌≡◌, Ok, sym, ◌∙◌, ap, arith, length}
use Rattle.std.proofs.Math.Nat.{mod-mod}
use Rattle.lent.specs.Refusals.{answered}
use Rattle.modint.specs.Width.{width16}
use Rattle.modint.specs.Answers.{val, wrap}
use Rattle.rules.specs.Kind.{kind16}
use Rattle.rules.specs.Field.{residue}
use Rattle.rules.specs.Decode.{evaluate}
use Rattle.rules.proofs.Evaluate.{evaluate_residue}
use Rattle.rules.proofs.Outcomes.{evaluate_none, evaluate_large, evaluate_given, once_many, once_plain}
use Rattle.polynomial.proofs.Empty.{none, some}
use Rattle.polynomial.proofs.one_reduction.eval_precompute.Goals as goal

pub returns-then-is_empty : goal.returns-then-is_empty
returns-then-is_empty c =
    let cs = c.args.coeffs.now in
    let x = c.args.x.0 in
    let empty = none (length cs) c.is_empty.ensures c.if-is_empty.true in
    ap (answered (wrap width16)) (sym (once_plain kind16 cs x (omega (arith, empty)) ∙ evaluate_none kind16 cs x (omega (arith, empty))))

pub returns-then-coeffs-gt-PLACES : goal.returns-then-coeffs-gt-PLACES
returns-then-coeffs-gt-PLACES c =
    ap (answered (wrap width16))
    (sym (once_many kind16 c.args.coeffs.now c.args.x.0 (some (length c.args.coeffs.now) c.is_empty.ensures c.if-is_empty.false) c.if-coeffs-gt-PLACES.true))

pub returns-then-not-all_below : goal.returns-then-not-all_below
returns-then-not-all_below c =
    let cs = c.args.coeffs.now in
    let x = c.args.x.0 in
    let full = some (length cs) c.is_empty.ensures c.if-is_empty.false in
    let large = evaluate_large kind16 cs x full (sym c.all_below.ensures ∙ c.if-not-all_below.true) in
    ap (answered (wrap width16)) (sym (once_plain kind16 cs x c.if-coeffs-gt-PLACES.false ∙ large))

pub returns : goal.returns
returns c =
    let cs = c.args.coeffs.now in
    let x = c.args.x.0 in
    let full = some (length cs) c.is_empty.ensures c.if-is_empty.false in
    let comes = once_plain kind16 cs x c.if-coeffs-gt-PLACES.false
    ∙ evaluate_given kind16 cs x full (sym c.all_below.ensures ∙ c.if-not-all_below.false) in
    let point : c.value.result ≡ residue kind16 x = c.value.ensures ∙ ap (val width16) c.reduce.ensures in
    let modulus = c.from.ensures in
    let reduced : val width16 c.reduce-2.result ≡ evaluate kind16 cs x =
    ap (val width16) c.reduce-2.ensures ∙ rw modulus (mod-mod c.unreduced-sum.result kind16.modulus) ∙ c.unreduced-sum.ensures
    ∙ ap (evaluate kind16 cs) point ∙ evaluate_residue kind16 cs x in
    ap (λ (n : ℕ). Ok (wrap width16 n)) reduced ∙ ap (answered (wrap width16)) (sym comes)

-- Horner's rule: the value with the first coefficient, then with one more.
use Rattle.std.proofs.Common.{ℕ, ◌≡◌, ◌+◌, ◌<◌, ◌≤◌, ◌∷◌, List, length, get_or, suc, ap, ◌∙◌, arith}
use Rattle.rules.specs.Field.{residue}
use Rattle.rules.proofs.Evaluate.{horner_start, horner_turn, horner_done, evaluate_empty}
use Rattle.modint.specs.Width.{Width}
use Rattle.modint.specs.Answers.{val, wrap}
use Rattle.modint.proofs.Residues.{number, residue_of}
use Rattle.modint.proofs.Width.{nums_length, nums_first, nums_item}
use Rattle.polynomial.proofs.evaluator.value.Goals as goal

module _ {W : Type 0} (w : Width W) (coeffs : List W) {first : W} {rest : List W} (e : coeffs ≡ first ∷ rest) where
  -- The numbers of the coefficients are that of the first and those of the rest.
  parts : w.nums coeffs ≡ w.num first ∷ w.nums rest
  parts = ap w.nums e ∙ nums_first w first rest

  -- The coefficient at a place of the rest.
  item : (k : ℕ) {x : W} → x ≡ get_or rest k x → k < length rest → get_or (w.nums coeffs) (k + 1) 0 ≡ w.num x
  item k is l =
      let place : k + 1 ≡ suc k = omega arith in
      rw (parts, place) (nums_item w rest k 0 is l)

pub returns-in_default : goal.returns-in_default
returns-in_default g c =
    let w = g.W.Word.width in
    let none = nums_length w c.args.coeffs.now ∙ c.in_default.ensures.cases in
    c.reduce.ensures ∙ ap (wrap w) (ap (residue w.kind) c.one.ensures ∙ evaluate_empty w.kind (w.nums c.args.coeffs.now) (val w c.args.x) none)

pub loop-coeff-init : goal.loop-coeff-init
loop-coeff-init g c =
    let w = g.W.Word.width in
    let cs = c.args.coeffs.now in
    let first = ap (λ (l : List ℕ). get_or l 0 0) (parts w cs c.in-Some.ensures.cases.0) in
    let term = number w c.reduce-2.ensures in
    let sum = number w c.add-result.ensures in
    let some : 1 ≤ length (w.nums cs) = omega (arith, nums_length w cs, c.in-Some.ensures.cases.1) in
    horner_start w.kind (w.nums cs) (val w c.args.x) some (sum ∙ rw (term, first))

pub loop-coeff-preserved : goal.loop-coeff-preserved
loop-coeff-preserved g c =
    let w = g.W.Word.width in
    let cs = c.args.coeffs.now in
    let k = c.loop-coeff.coeff-index in
    let coeff = item w cs c.in-Some.ensures.cases.0 k c.coeff-item.is c.loop-coeff-test.true in
    let next = number w c.mul_add-result.ensures in
    let within : k + 1 < length (w.nums cs) = omega (arith, nums_length w cs, c.in-Some.ensures.cases.1, c.loop-coeff-test.true) in
    horner_turn w.kind (w.nums cs) (val w c.args.x) c.loop-coeff.invariant within (next ∙ rw coeff)

pub returns : goal.returns
returns g c =
    let w = g.W.Word.width in
    let cs = c.args.coeffs.now in
    let all : length (w.nums cs) ≤ c.loop-coeff.coeff-index + 1 = omega (arith, nums_length w cs, c.in-Some.ensures.cases.1, c.loop-coeff-test.false) in
    residue_of w (horner_done w.kind (w.nums cs) (val w c.args.x) c.loop-coeff.invariant all)

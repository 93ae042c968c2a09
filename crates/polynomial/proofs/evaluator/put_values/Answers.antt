-- The first coefficient, and then one a turn for the whole block.
use Rattle.std.proofs.Common.{ℕ, ◌≡◌, ◌+◌, ◌-◌, ◌<◌, ◌≤◌, List, length, get_or, take, drop, ap, ◌∙◌, arith, length-take, length-drop}
use Rattle.std.proofs.Math.Seq.{get_or-take, get_or-drop}
use Rattle.rules.proofs.Listing.{valuing_start, valuing_turn, valuing_done}
use Rattle.modint.specs.Width.{Width}
use Rattle.modint.proofs.Width.{nums_length, nums_item}
use Rattle.polynomial.proofs.evaluator.put_values.Goals as goal

module _ {W : Type 0} (l : List W) where
  -- There is one fewer behind the first.
  behind : 1 ≤ length l → length (take (length l - 1) (drop 1 l)) + 1 ≡ length l
  behind some = omega (arith, length-take (length l - 1) (drop 1 l), length-drop 1 l)

  -- The one at a place behind the first.
  item : (w : Width W) (k : ℕ) {x : W} → x ≡ get_or (take (length l - 1) (drop 1 l)) k x → k + 1 < length l → get_or (w.nums l) (k + 1) 0 ≡ w.num x
  item w k {x} is h =
      let place : 1 + k ≡ k + 1 = omega arith in
      let within : k < length l - 1 = omega arith in
      nums_item w l (k + 1) 0 (is ∙ get_or-take (length l - 1) (drop 1 l) k x within ∙ get_or-drop 1 l k x ∙ ap (λ (i : ℕ). get_or l i x) place) h

pub loop-coeff-init : goal.loop-coeff-init
loop-coeff-init g c =
    let w = g.W.Word.width in
    let l = c.args.coeffs.now in
    let first = nums_item w l 0 0 c.index-coeffs-0.is (omega (arith, c.requires.0)) in
    valuing_start w.kind _ _ (omega (arith, c.requires.0, nums_length w l)) (rw first c.put_firsts.ensures)

pub loop-coeff-preserved : goal.loop-coeff-preserved
loop-coeff-preserved g c =
    let w = g.W.Word.width in
    let l = c.args.coeffs.now in
    let k = c.loop-coeff.coeff-index in
    let within : k + 1 < length l = omega (arith, behind l c.requires.0, c.loop-coeff-test.true) in
    let coeff = item l w k c.coeff-item.is within in
    valuing_turn w.kind _ _ c.loop-coeff.invariant (omega (arith, nums_length w l)) (rw coeff c.step.ensures)

pub returns : goal.returns
returns g c =
    let w = g.W.Word.width in
    let l = c.args.coeffs.now in
    let all : length (w.nums l) ≤ c.loop-coeff.coeff-index + 1 = omega (arith, behind l c.requires.0, nums_length w l, c.loop-coeff-test.false) in
    valuing_done w.kind _ _ c.loop-coeff.invariant all

-- One product a turn.
use Rattle.std.proofs.Common.{ℕ, ◌≡◌, ◌<◌, ◌≤◌, ◌-◌, ◌*◌, List, length, get_or, take, ap₂, ◌∙◌, arith}
use Rattle.std.proofs.Math.Seq.{get_or-take, length-take-le}
use Rattle.rules.proofs.Newton.{summing_turn, summing_done}
use Rattle.modint.specs.Width.{Width}
use Rattle.modint.proofs.Width.{nums_item}
use Rattle.polynomial.proofs.coefficients.newton_sum.Goals as goal

-- One of the first n words.
first_item : {W : Type 0} (w : Width W) (l : List W) (n j : ℕ) {x : W} → n ≤ length l → j < n → x ≡ get_or (take n l) j x
    → get_or (w.nums l) j 0 ≡ w.num x
first_item w l n j {x} enough h is = nums_item w l j 0 (is ∙ get_or-take n l j x h) (omega arith)

pub loop-j-preserved : goal.loop-j-preserved
loop-j-preserved g c =
    let w = g.W.Word.width in
    let j = c.loop-j.j in
    let sums = c.args.sums.now in
    let cs = c.args.coeffs.now in
    let within : j < length cs = omega (arith, c.loop-j-test.true, length-take-le (length cs) sums c.requires) in
    let sum = first_item w sums (length cs) j c.requires within c.sum-item.is in
    let coeff = nums_item w cs (length cs - j - 1) 0 c.index-coeffs-i.is (omega arith) in
    summing_turn w.kind _ _ c.loop-j.invariant within (ap₂ ◌*◌ sum coeff) (c.plus-total.ensures ∙ rw c.times.ensures)

pub returns : goal.returns
returns g c =
    let cs = c.args.coeffs.now in
    let all = length-take-le (length cs) c.args.sums.now c.requires in
    summing_done g.W.Word.width.kind c.loop-j.invariant (omega (arith, c.loop-j-test.false, all))

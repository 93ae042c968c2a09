-- The first coefficient, and then one a turn from those that stand in the buffer.
use Rattle.std.proofs.Common.{ℕ, ◌≡◌, ◌<◌, ◌≤◌, ◌++◌, sym, ap, ◌∙◌, List, min, length, get_or, set, drop, arith}
use Rattle.std.proofs.Math.Seq.{length-take-le}
use Rattle.rules.specs.Field.{negative}
use Rattle.rules.specs.Decode.{coefficients}
use Rattle.rules.specs.Sums.{common}
use Rattle.rules.proofs.Newton.{Solving, solving_start, solving_turn, solving_done, solving_none}
use Rattle.modint.specs.Width.{Width}
use Rattle.modint.proofs.Residues.{number}
use Rattle.modint.proofs.Width.{nums_length, nums_item, nums_set, nums_take}
use Rattle.polynomial.proofs.coefficients.put_coefficients.Goals as goal

module _ {W : Type 0} (w : Width W) (sums coeffs : List W) {n : ℕ} where
  -- Two lists of words have as many in common as their numbers.
  in_common : n ≡ min (length sums) (length coeffs) → n ≡ common (w.nums sums) (w.nums coeffs)
  in_common e = rw (nums_length w sums, nums_length w coeffs) e

  -- The first coefficient, put at the front of the buffer.
  begun : {v : W} → 1 ≤ n → n ≤ length (w.nums coeffs) → w.num v ≡ negative w.kind (get_or (w.nums sums) 0 0)
      → Solving w.kind (w.nums sums) n (w.nums (set coeffs 0 v)) (w.nums (set coeffs 0 v)) 1
  begun {v} l room e = rw (nums_set w coeffs 0 v) (solving_start w.kind (w.nums coeffs) l room e)

  -- With the last one they all stand there.
  done : (v : W) {i : ℕ} {now : List ℕ} → Solving w.kind (w.nums sums) n (w.nums (set coeffs 0 v)) now i → 1 ≤ n → n ≤ i
      → now ≡ coefficients w.kind (w.nums sums) n ++ drop n (w.nums coeffs)
  done v s l u = solving_done w.kind (w.nums coeffs) (w.num v) (rw (nums_set w coeffs 0 v) at s) l u

pub returns-then-n-eq0 : goal.returns-then-n-eq0
returns-then-n-eq0 g c =
    let w = g.W.Word.width in
    solving_none w.kind _ _ _ (sym (in_common w c.args.sums.now c.args.coeffs.now c.min-n.ensures) ∙ c.if-n-eq0.true)

pub loop-i-init : goal.loop-i-init
loop-i-init g c =
    let w = g.W.Word.width in
    let ss = c.args.sums.now in
    let many = in_common w ss c.args.coeffs.now c.min-n.ensures in
    let first = nums_item w ss 0 0 c.index-sums-0.is (omega (arith, c.min-n.ensures, c.if-n-eq0.false)) in
    let some : 1 ≤ c.min-n.result = omega (arith, c.if-n-eq0.false) in
    let room : c.min-n.result ≤ length (w.nums c.args.coeffs.now) = omega (arith, many) in
    let enough : c.min-n.result ≤ length (w.nums ss) = omega (arith, many) in
    (begun w ss c.args.coeffs.now some room (c.minus.ensures ∙ rw (c.zero.ensures, first)), enough)

pub loop-i-preserved : goal.loop-i-preserved
loop-i-preserved g c =
    let w = g.W.Word.width in
    let i = c.loop-i.i in
    let inv = c.loop-i.invariant in
    let now = c.loop-i.coeffs in
    let within : i < length now = omega (arith, inv.0.long, inv.0.room, c.loop-i-test.true, nums_length w now) in
    let front = length-take-le i now (omega arith) in
    let item = nums_item w c.args.sums.now i 0 c.index-sums-i.is (omega (arith, inv.1, c.loop-i-test.true, nums_length w c.args.sums.now)) in
    let lower = rw (front, nums_take w i now) at c.newton_sum-lower.ensures in
    let inverse = ap w.num c.value.ensures ∙ number w c.inverse_at.ensures in (
      rw (nums_set w now i c.times.result) (solving_turn w.kind inv.0 c.loop-i-test.true lower
          (c.times.ensures ∙ rw (c.minus-next.ensures, c.minus-in-loop-i.ensures, c.zero-in-loop-i.ensures, inverse, item))),
      inv.1,
    )

pub returns : goal.returns
returns g c =
    let w = g.W.Word.width in
    let many = in_common w c.args.sums.now c.args.coeffs.now c.min-n.ensures in
    rw (← many) (done w c.args.sums.now c.args.coeffs.now c.minus.result c.loop-i.invariant.0 (omega (arith, c.if-n-eq0.false)) c.loop-i-test.false)

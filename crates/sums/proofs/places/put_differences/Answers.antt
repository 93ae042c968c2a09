-- One difference a turn, as far as there are sums and places.
use Rattle.std.proofs.Common.{◌≡◌, ◌<◌, ap, ap₂, sym, ◌∙◌, length, min, arith}
use Rattle.rules.specs.Field.{minus}
use Rattle.rules.specs.Sums.{common, differences}
use Rattle.rules.proofs.Changing.{differences_length, differences_at}
use Rattle.rules.proofs.Mapping.{mapping_start, mapping_turn, copying_done}
use Rattle.modint.proofs.Width.{nums_length, nums_at, nums_set}
use Rattle.sums.proofs.places.put_differences.Goals as goal

pub loop-k-init : goal.loop-k-init
loop-k-init g c =
    let w = g.W.Word.width in
    let places = nums_length w c.args.places.now in
    let sums = nums_length w c.args.sums.now in
    let others = nums_length w c.args.others.now in
    let n : c.min-n.result ≡ min (length c.args.places.now) (common (w.nums c.args.sums.now) (w.nums c.args.others.now)) =
    omega (arith, c.min.ensures, c.min-n.ensures, sums, others) in
    let long = differences_length w.kind (w.nums c.args.sums.now) (w.nums c.args.others.now) in
    (mapping_start {l = differences w.kind (w.nums c.args.sums.now) (w.nums c.args.others.now)} (omega (arith, long, n)) (omega (arith, places, n)), n)

pub loop-k-preserved : goal.loop-k-preserved
loop-k-preserved g c =
    let w = g.W.Word.width in
    let i = c.loop-k.invariant in
    let k = c.loop-k.k in
    let sums = c.args.sums.now in
    let others = c.args.others.now in
    let here : k < common (w.nums sums) (w.nums others) = omega (arith, i.1, c.loop-k-test.true) in
    let sum = nums_at w sums k c.index-sums-k.result 0 (omega (arith, here, nums_length w sums)) ∙ ap w.num (sym c.index-sums-k.is) in
    let other = nums_at w others k c.index-others-k.result 0 (omega (arith, here, nums_length w others)) ∙ ap w.num (sym c.index-others-k.is) in
    let less = c.minus.ensures ∙ ap₂ (minus w.kind) (sym sum) (sym other) ∙ sym (differences_at w.kind (w.nums sums) (w.nums others) k here) in
    rw nums_set (mapping_turn {l = differences w.kind (w.nums sums) (w.nums others)} 0 0 i.0 c.loop-k-test.true less, i.1)

pub returns : goal.returns
returns g c =
    let w = g.W.Word.width in
    let i = c.loop-k.invariant in
    let sums = w.nums c.args.sums.now in
    let others = w.nums c.args.others.now in
    rw (nums_length w c.args.places.now, differences_length w.kind sums others, ← i.1)
    (copying_done {l = differences w.kind sums others} i.0 c.loop-k-test.false)

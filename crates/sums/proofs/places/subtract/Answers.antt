-- One sum a turn, as far as both have sums.
use Rattle.std.proofs.Common.{◌≡◌, ◌<◌, refl, ap, ap₂, sym, ◌∙◌, add-zero, arith}
use Rattle.std.proofs.Math.ListN.{length-take}
use Rattle.std.proofs.Math.Seq.{get_or-take}
use Rattle.rules.specs.Field.{minus}
use Rattle.rules.specs.Sums.{common}
use Rattle.rules.proofs.Changing.{changing_start, changing_turn, changing_done}
use Rattle.modint.proofs.Width.{nums_length, nums_at, nums_set}
use Rattle.sums.proofs.places.subtract.Goals as goal

pub loop-k-init : goal.loop-k-init
loop-k-init g c =
    let w = g.W.Word.width in
    let sums = nums_length w c.args.sums.now in
    let others = nums_length w c.args.others.now in
    let both : c.min-both.result ≡ common (w.nums c.args.sums.now) (w.nums c.args.others.now) = omega (arith, c.min-both.ensures, sums, others) in
    (changing_start (omega (arith, both)), both)

pub loop-k-preserved : goal.loop-k-preserved
loop-k-preserved g c =
    let w = g.W.Word.width in
    let i = c.loop-k.invariant in
    let k = c.loop-k.k in
    let sums = c.loop-k.sums in
    let others = c.args.others.now in
    let here : k < c.min-both.result = omega (arith, length-take c.min-both.result others, c.loop-k-test.true) in
    let sum = nums_at w sums k c.index-sums-k.result 0 (omega (arith, here, c.min-both.ensures, c.loop-k.auto.sums)) ∙ ap w.num (sym c.index-sums-k.is) in
    let other = nums_at w others k c.other-item.result 0 (omega (arith, here, c.min-both.ensures))
    ∙ ap w.num (sym (c.other-item.is ∙ get_or-take c.min-both.result others k c.other-item.result here)) in
    rw nums_set (changing_turn i.0 here (c.minus.ensures ∙ ap₂ (minus w.kind) (sym sum) (rw add-zero (sym other))) refl, i.1)

pub returns : goal.returns
returns g c =
    let i = c.loop-k.invariant in
    let last = length-take c.min-both.result c.args.others.now in
    rw (← i.1) (changing_done i.0 (omega (arith, last, c.min-both.ensures, c.loop-k-test.false)))

-- One place a turn.
use Rattle.std.proofs.Common.{refl, ◌∙◌, ap, length, replicate, arith}
use Rattle.rules.proofs.Each.{each_cleared}
use Rattle.rules.proofs.Changing.{changing_start, changing_turn, changing_done, changed_all}
use Rattle.modint.proofs.Width.{nums_length, nums_set}
use Rattle.sums.proofs.places.clear.Goals as goal

pub loop-place-init : goal.loop-place-init
loop-place-init g c = changing_start (omega (arith, nums_length g.W.Word.width c.args.places.now))

pub loop-place-preserved : goal.loop-place-preserved
loop-place-preserved g c = rw (nums_set, c.zero.ensures) (changing_turn c.loop-place.invariant c.loop-place-test.true refl refl)

pub returns : goal.returns
returns g c =
    let w = g.W.Word.width in
    let l = w.nums c.args.places.now in
    let many = nums_length w c.args.places.now in
    changing_done c.loop-place.invariant c.loop-place-test.false ∙ changed_all _ 0 (length c.args.places.now) l (omega (arith, many)) ∙ each_cleared 0 l
    ∙ ap (λ n. replicate n 0) many

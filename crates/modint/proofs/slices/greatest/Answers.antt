-- The greatest of the first k, and then of one more.
use Rattle.std.proofs.Common.{◌<◌, ◌≤◌, ap, sym, ◌∙◌, length, max}
use Rattle.rules.proofs.Most.{most_start, most_turn, most_done}
use Rattle.modint.proofs.Width.{nums_length, nums_at}
use Rattle.modint.proofs.slices.greatest.Goals as goal

pub loop-here-init : goal.loop-here-init
loop-here-init g c = let w = g.W.Word.width in rw c.zero-most.ensures most_start

pub loop-here-preserved : goal.loop-here-preserved
loop-here-preserved g c =
    let w = g.W.Word.width in
    let l = c.args.numbers.now in
    let here = nums_at w l c.loop-here.here-index c.here-item.result 0 c.loop-here-test.true ∙ ap w.num (sym c.here-item.is) in
    let many : c.loop-here.here-index < length (w.nums l) = rw (nums_length w l) c.loop-here-test.true in
    most_turn c.loop-here.invariant many (c.greater_of-most.ensures ∙ ap (max (w.num c.loop-here.most)) (sym here))

pub returns : goal.returns
returns g c =
    let w = g.W.Word.width in
    let all : length (w.nums c.args.numbers.now) ≤ c.loop-here.here-index = rw (nums_length w c.args.numbers.now) c.loop-here-test.false in
    most_done c.loop-here.invariant all

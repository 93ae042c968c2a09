-- One sum a turn, whatever was reached before.
use Rattle.std.proofs.Common.{arith}
use Rattle.rules.proofs.Changing.{reaches_turn, reaches_done}
use Rattle.modint.proofs.Width.{nums_length}
use Rattle.sums.proofs.powers.one_by_one.Goals as goal

pub loop-k-preserved : goal.loop-k-preserved
loop-k-preserved g c down before r =
    let w = g.W.Word.width in
    let q = c.loop-k.invariant down before r in
    let long = nums_length w c.loop-k.sums in
    rw c.raise.ensures (reaches_turn w.kind q (omega (arith, q.raising.changing.long, long, c.loop-k.auto.sums, c.loop-k-test.true)) c.times-power.ensures)

pub returns : goal.returns
returns g c down before r =
    let w = g.W.Word.width in
    let q = c.loop-k.invariant down before r in
    let long = nums_length w c.loop-k.sums in
    reaches_done w.kind q (omega (arith, q.raising.changing.long, long, c.loop-k.auto.sums, c.loop-k-test.false))

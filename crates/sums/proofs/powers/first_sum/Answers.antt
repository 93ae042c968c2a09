-- The first sum moves by the first power.
use Rattle.std.proofs.Common.{arith}
use Rattle.rules.proofs.Changing.{reaches_first}
use Rattle.modint.proofs.Width.{nums_length}
use Rattle.sums.proofs.powers.first_sum.Goals as goal

pub returns : goal.returns
returns g c =
    let w = g.W.Word.width in
    let long = nums_length w c.args.sums.now in
    rw (c.raise.ensures, c.signed-y.ensures) (reaches_first w.kind _ _ _ (omega (arith, long, c.requires)))

-- One sum after the other.
use Rattle.sums.specs.Chains.{four_at}
use Rattle.sums.proofs.powers.raise_four.Goals as goal

pub returns : goal.returns
unfolding four_at
returns g c = rw (c.raise-4.ensures, c.raise-3.ensures, c.raise-2.ensures, c.raise.ensures)

-- The exponent falls.
use Rattle.modint.proofs.Residue.+raised.Given as goal

abbrev pub decreases-raised : goal.decreases-raised
decreases-raised g l = l.exponent

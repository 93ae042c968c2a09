-- Every number is below the prime where the greatest is.
use Rattle.std.proofs.Common.{sym, ◌∙◌}
use Rattle.rules.proofs.Field.{positive}
use Rattle.rules.proofs.Most.{every_most}
use Rattle.modint.proofs.slices.all_below.Goals as goal

pub returns : goal.returns
returns g c =
    let k = g.W.Word.width.kind in
    c.is_residue.ensures ∙ rw c.greatest.ensures (sym (every_most k.modulus (positive k) 0 _))

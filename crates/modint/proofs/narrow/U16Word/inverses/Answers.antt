-- The table's rule is one test over the whole table, which the checker computes.
use Rattle.std.proofs.Common.{refl}
use Rattle.numbers.specs.Power.{power_within, power_mod}
use Rattle.numbers.specs.Table.{every}
use Rattle.rules.specs.Field.{inverses_right}
use Rattle.modint.proofs.narrow.U16Word.inverses.Goals as goal

pub returns-clause-right : goal.returns-clause-right
unfolding inverses_right every power_mod power_within
returns-clause-right c = refl

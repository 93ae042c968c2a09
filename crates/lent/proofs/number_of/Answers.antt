-- A byte weighed; after the last the sum is the number.
use Rattle.std.proofs.Common.{◌≡◌, ◌<◌, ◌∙◌, arith, rules, get_or}
use lib.ListN.{length-take}
use lib.Seq.{get_or-take}
use Rattle.std.proofs.Math.Nat.{mod-eq_of_lt}
use Rattle.lent.proofs.Bytes.{weighing_turn, weighing_done, weight_within, weighing_within}
use Rattle.lent.proofs.number_of.Goals.{After-from}
use Rattle.lent.proofs.number_of.Goals as goal

-- The byte taken is the part's, at the place that is reached.
taken : (c : After-from) → (c.from.result ≡ get_or c.args.part.now c.loop-byte.byte-index 0) × (c.from.result < 256)
taken c =
    let few : c.loop-byte.byte-index < c.min.result = omega (arith, c.loop-byte-test.true, length-take c.min.result c.args.part.now) in
    let here = c.from.ensures ∙ get_or-take c.min.result c.args.part.now c.loop-byte.byte-index 0 few in
    (here, rw here (c.type_inv.part c.loop-byte.byte-index).fits)

pub overflow_mul-sum : goal.overflow_mul-sum
overflow_mul-sum c = let fits = weighing_within c.loop-byte.invariant c.loop-byte-test.true (taken c).0 (taken c).1 in search (rules, fits)

pub overflow_add-sum : goal.overflow_add-sum
overflow_add-sum c = let fits = weighing_within c.loop-byte.invariant c.loop-byte-test.true (taken c).0 (taken c).1 in search (rules, fits)

pub loop-byte-preserved : goal.loop-byte-preserved
loop-byte-preserved c =
    let within = weight_within c.loop-byte.invariant c.loop-byte-test.true (taken c).0 (taken c).1 in
    weighing_turn c.loop-byte.invariant c.loop-byte-test.true (taken c).0 (taken c).1 (λ l. mod-eq_of_lt (within l))

pub returns-clause-value : goal.returns-clause-value
returns-clause-value c = (weighing_done c.loop-byte.invariant c.loop-byte-test.false).0

pub returns-clause-fits : goal.returns-clause-fits
returns-clause-fits c = (weighing_done c.loop-byte.invariant c.loop-byte-test.false).1

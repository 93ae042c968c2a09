-- The last j coefficients added up, and then two more; those that are left stand behind the single one, if there is one.
use Rattle.std.proofs.Common.{◌≡◌, ◌≤◌, ◌+◌, ◌-◌, ◌%◌, ◌^◌, ◌++◌, length, take}
use Rattle.std.specs.Slice.Exact.{rchunks_exact_rest, rchunks_exact_size}
use Rattle.rules.specs.Kind.{kind16}
use Rattle.rules.proofs.OneReduction.{SumSoFar}
use Rattle.polynomial.proofs.one_reduction.unreduced.Given as goal

abbrev pub invariant-loop-pair : goal.invariant-loop-pair
invariant-loop-pair l =
    let rest = rchunks_exact_rest l.pair-iterator in
    let j = length l.coeffs - length l.single - length rest in
    SumSoFar kind16 l.coeffs l.x l.sum l.power j × (l.next ≡ l.x ^ (j + 1) % kind16.modulus)
    × (l.single ++ rest ≡ take (length l.coeffs - j) l.coeffs) × (length l.coeffs ≡ j + length l.single + length rest) × (length l.single ≤ 1)
    × (length rest % 2 ≡ 0) × (rchunks_exact_size l.pair-iterator ≡ 2)
    × goal.iterator-loop-pair.can_next l.pair-iterator × goal.iterator-loop-pair.is_finite l.pair-iterator

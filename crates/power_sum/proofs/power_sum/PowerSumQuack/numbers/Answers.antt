-- One place a turn.
use Rattle.std.proofs.Common.{ℕ, ◌≤◌, List, ◌++◌, length, map, drop, ap, ap₂, ◌∙◌, arith, rules}
use Rattle.modint.specs.Answers.{val}
use Rattle.modint.specs.declared.Residue.{Residue}
use Rattle.modint.proofs.Width.{nums_set, nums_same}
use Rattle.rules.proofs.Mapping.{mapping_turn, mapping_done}
use Rattle.std.proofs.Math.Nat.{mul-le-mul_left}
use lib.Seq.{take_all}
use mathlib.Core.List.{append-nil}
use denote.Memory.{lone}
use Rattle.power_sum.proofs.Sizes.{residue_few}
use Rattle.power_sum.proofs.power_sum.PowerSumQuack.numbers.Goals as goal

pub offset_bounds-residue-items-k : goal.offset_bounds-residue-items-k
offset_bounds-residue-items-k g c =
    let few = residue_few (lone g.row.W.mir) g.met.W.Word.small in
    record { fits = omega (arith, c.loop-k-test.true, mul-le-mul_left c.loop-k.k few) }

pub loop-k-preserved : goal.loop-k-preserved
loop-k-preserved g c =
    let w = g.W.Word.width in
    rw (nums_set w c.loop-k.numbers c.loop-k.k c.value.result)
    (mapping_turn c.residue-item.result 0 c.loop-k.invariant c.loop-k-test.true (ap w.num c.value.ensures))

pub returns : goal.returns
returns g c =
    let w = g.W.Word.width in
    let s = c.args.self.sums in
    let all : length s ≤ 32 = search rules in
    mapping_done c.loop-k.invariant c.loop-k-test.false
    ∙ ap₂ (λ (l : List (Residue g.row.W.Denot)) (r : List ℕ). map (val w) l ++ r) (take_all 32 s all) (ap (drop 32) (nums_same w 32 c.zero-numbers.result))
    ∙ append-nil (map (val w) s)

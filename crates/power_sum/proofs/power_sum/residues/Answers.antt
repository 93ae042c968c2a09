-- One place a turn. A number below the prime is its own residue.
use Rattle.std.proofs.Common.{◌≡◌, ◌<◌, length, ap, sym, ◌∙◌, rules}
use Rattle.modint.specs.Answers.{wrap}
use Rattle.modint.proofs.Width.{nums_length, nums_at}
use Rattle.rules.specs.Field.{residue}
use Rattle.rules.proofs.Bytes.{own_residue}
use Rattle.rules.proofs.Mapping.{mapping_turn}
use Rattle.power_sum.proofs.power_sum.residues.Goals as goal

pub loop-k-preserved : goal.loop-k-preserved
loop-k-preserved g c =
    let w = g.W.Word.width in
    let k = w.kind in
    let l = c.args.numbers in
    let all : length l ≡ 32 = search rules in
    let few : c.loop-k.k < length l = rw all c.loop-k-test.true in
    let many : c.loop-k.k < length (w.nums l) = rw (nums_length w l) few in
    let here = sym (nums_at w l c.loop-k.k c.number-item.result 0 few) in
    let own = own_residue k (w.nums l) c.requires c.loop-k.k many in
    mapping_turn 0 (wrap w 0) c.loop-k.invariant c.loop-k-test.true (c.reduce.ensures ∙ ap (wrap w) (ap (residue k) here ∙ own))

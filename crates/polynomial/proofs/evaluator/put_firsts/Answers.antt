-- One entry a turn.
use Rattle.std.proofs.Common.{ℕ, ◌≡◌, ◌<◌, ◌≤◌, ap, sym, ◌∙◌, arith, List, map, length, append-nil}
use Rattle.std.proofs.Math.ListN.{drop_of_length-le}
use Rattle.std.proofs.Math.Seq.{take_all}
use Rattle.rules.specs.Field.{plus}
use Rattle.rules.proofs.Mapping.{Mapping, mapping_turn, mapping_done}
use Rattle.modint.specs.Width.{Width}
use Rattle.modint.proofs.Width.{nums_length, nums_item, nums_set}
use Rattle.polynomial.proofs.evaluator.put_firsts.Goals as goal

-- After the last entry, what f makes of all.
done : {W : Type 0} (w : Width W) (log values : List W) {f : ℕ → ℕ} {now : List ℕ} {j : ℕ} → length values ≡ length log
    → Mapping f (length log) (w.nums log) (w.nums values) now j → length log ≤ j → now ≡ map f (w.nums log)
done w log values {f} long i h =
    let all = take_all (length log) (w.nums log) (omega (arith, nums_length w log)) in
    let none = drop_of_length-le (w.nums values) {i = length log} (omega (arith, long, nums_length w values)) in
    mapping_done i h ∙ rw (all, none) (append-nil (map f (w.nums log)))

pub loop-j-preserved : goal.loop-j-preserved
loop-j-preserved g c =
    let w = g.W.Word.width in
    let j = c.loop-j.j in
    let within : j < length c.args.log.now = omega (arith, c.requires, c.loop-j-test.true) in
    let entry = nums_item w c.args.log.now j 0 c.index-log-j.is within in
    let sum = c.plus.ensures ∙ ap (λ (n : ℕ). plus w.kind n (w.num c.args.a)) (sym entry) in
    rw (nums_set w c.loop-j.values j c.plus.result) (mapping_turn 0 0 c.loop-j.invariant within sum)

pub returns : goal.returns
returns g c =
    done g.W.Word.width c.args.log.now c.args.values.now c.requires c.loop-j.invariant (omega (arith, c.requires, c.loop-j-test.false))

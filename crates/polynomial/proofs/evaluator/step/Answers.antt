-- One entry a turn.
use Rattle.std.proofs.Common.{ℕ, ◌≡◌, ◌<◌, ◌≤◌, ◌+◌, ◌*◌, refl, ◌∙◌, arith, List, length, get_or, set}
use Rattle.std.proofs.Math.Nat.{add-zero}
use Rattle.rules.specs.Field.{plus}
use Rattle.rules.specs.Sketch.{each}
use Rattle.rules.proofs.Changing.{Changing, changing_turn, changing_done, changed_all}
use Rattle.modint.specs.Width.{Width}
use Rattle.modint.proofs.Width.{nums_length, nums_at, nums_item, nums_set}
use Rattle.polynomial.proofs.evaluator.step.Goals as goal

-- After the last entry, every value is changed.
done : {W : Type 0} (w : Width W) (log values : List W) {f : ℕ → ℕ → ℕ} {now : List ℕ} {j : ℕ} → length values ≡ length log
    → Changing f 0 (length log) (w.nums values) now j → length log ≤ j → now ≡ each f 0 (w.nums values)
done w log values {f} long i h = changing_done i h ∙ changed_all f 0 (length log) (w.nums values) (omega (arith, long, nums_length w values))

-- One entry more.
turn : {W : Type 0} (w : Width W) (log values : List W) (a : ℕ) {v e : W} {before : List ℕ} {j r : ℕ} →
    Changing (λ (k v : ℕ). plus w.kind (v * get_or (w.nums log) k 0) a) 0 (length log) before (w.nums values) j → j < length log
    → get_or (w.nums values) j 0 ≡ w.num v → get_or (w.nums log) j 0 ≡ w.num e → r ≡ plus w.kind (w.num v * w.num e) a
    → Changing (λ (k v : ℕ). plus w.kind (v * get_or (w.nums log) k 0) a) 0 (length log) before (set (w.nums values) j r) (j + 1)
turn w log values a i l value entry e = changing_turn i l (e ∙ rw (add-zero, value, entry)) refl

pub loop-j-preserved : goal.loop-j-preserved
loop-j-preserved g c =
    let w = g.W.Word.width in
    let j = c.loop-j.j in
    let log = c.args.log.now in
    let values = c.loop-j.values in
    let within : j < length log = omega (arith, c.requires, c.loop-j-test.true) in
    let entry = nums_item w log j 0 c.index-log-j.is within in
    let value = nums_at w values j c.index-values-j.result 0 (omega (arith, c.loop-j.auto.values, c.loop-j-test.true)) in
    rw (nums_set w values j c.times_plus.result) (turn w log values (w.num c.args.a) c.loop-j.invariant within value entry c.times_plus.ensures)

pub returns : goal.returns
returns g c =
    done g.W.Word.width c.args.log.now c.args.values.now c.requires c.loop-j.invariant (omega (arith, c.requires, c.loop-j-test.false))

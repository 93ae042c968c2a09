-- The first four powers by three products, and then four places a turn.
use Rattle.std.proofs.Common.{◌+◌, ◌-◌, ◌≡◌, ◌∙◌, arith}
use Rattle.rules.proofs.Changing.{Chains, raising_start, chains_start, chains_turn, chains_move}
use Rattle.modint.proofs.Width.{nums_length}
use Rattle.sums.specs.Chains.{four_at}
use Rattle.sums.proofs.powers.by_fours.Given.{Over}
use Rattle.sums.proofs.powers.by_fours.Goals.{After-signed-4, After-times_four-y}
use Rattle.sums.proofs.powers.by_fours.Goals as goal

-- The first four powers.
begun : (g : Over) (c : After-signed-4 g) → let w = g.W.Word.width in
    Chains w.kind c.args.down (w.num c.args.x) (w.num c.times-fourth.result) 0 (w.num c.signed.result) (w.num c.signed-2.result) (w.num c.signed-3.result)
    (w.num c.signed-4.result)
begun g c =
    rw (c.signed-4.ensures, c.signed-3.ensures, c.signed-2.ensures, c.signed.ensures)
    (chains_start g.W.Word.width.kind _ c.times-square.ensures c.times-cube.ensures c.times-fourth.ensures)

-- The next four.
next : (g : Over) (c : After-times_four-y g) → let w = g.W.Word.width in let y = c.times_four-y.result in
    Chains w.kind c.args.down (w.num c.args.x) (w.num c.times-fourth.result) c.loop-k.k (w.num y.v0) (w.num y.v1) (w.num y.v2) (w.num y.v3)
next g c =
    let w = g.W.Word.width in
    let i = c.loop-k.invariant in
    let here : c.loop-k.k - 4 + 4 ≡ c.loop-k.k = omega (arith, i.2) in
    rw c.times_four-y.ensures (simp w.num_of (rw here at (chains_turn w.kind i.1)))

pub loop-k-init : goal.loop-k-init
loop-k-init g c = (λ before r. r, begun g (goal.at.loop-k-init g c).After-signed-4, omega arith, c.requires, c.raise_four.auto.sums)

pub loop-k-preserved : goal.loop-k-preserved
unfolding four_at
loop-k-preserved g c =
    let f = (goal.at.loop-k-preserved g c).After-times_four-y in
    let i = c.loop-k.invariant in
    let again : c.loop-k.k + 4 - 4 ≡ c.loop-k.k = omega arith in (
      λ before r. rw c.raise_four-in-loop-k.ensures (chains_move g.W.Word.width.kind (next g f) (i.0 before r) (omega (arith, c.loop-k-test.true))),
      rw again (next g f),
      omega arith,
      omega (arith, c.loop-k-test.true),
      c.raise_four-in-loop-k.auto.sums ∙ i.4,
    )

pub returns : goal.returns
unfolding four_at
returns g c =
    let w = g.W.Word.width in
    let i = c.loop-k.invariant in
    let here : c.loop-k.k - 4 + 4 ≡ c.loop-k.k = omega (arith, i.2) in
    let long = nums_length w c.args.sums.now in
    let begins = (goal.at.returns g c).After-signed-4 in
    record {
      some = omega (arith, i.2);
      raising =
          rw long (i.0 _ (rw c.raise_four.ensures
          (chains_move w.kind (begun g begins) (raising_start w.kind (omega (arith, long))) (omega (arith, c.requires)))));
      last = rw here at i.1.fourth;
    }

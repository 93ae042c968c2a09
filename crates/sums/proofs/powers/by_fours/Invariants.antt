-- The first four powers by three products, and then four places a turn.
use Rattle.std.proofs.Common.{ℕ, ◌≡◌, ◌-◌, ◌≤◌, List, length}
use Rattle.rules.proofs.Changing.{Raising, Chains}
use Rattle.sums.proofs.powers.by_fours.Given as goal

abbrev pub invariant-loop-k : goal.invariant-loop-k
invariant-loop-k g l =
    let w = g.W.Word.width in
    let x = w.num l.fn.x in
    ((before : List ℕ) → Raising w.kind l.down x l.n before (w.nums l.initial.sums) 4 → Raising w.kind l.down x l.n before (w.nums l.sums) l.k)
    × Chains w.kind l.down x (w.num l.fourth) (l.k - 4) (w.num l.y.v0) (w.num l.y.v1) (w.num l.y.v2) (w.num l.y.v3) × (4 ≤ l.k) × (l.k ≤ l.n)
    × (length l.sums ≡ l.n)

abbrev pub decreases-loop-k : goal.decreases-loop-k
decreases-loop-k g l = l.n - l.k

-- One sum a turn, whatever was reached before.
use Rattle.std.proofs.Common.{ℕ, Bool, List}
use Rattle.rules.proofs.Changing.{Reaches}
use Rattle.sums.proofs.powers.one_by_one.Given as goal

abbrev pub invariant-loop-k : goal.invariant-loop-k
invariant-loop-k g l =
    let w = g.W.Word.width in
    (down : Bool) (before : List ℕ)
    → Reaches w.kind down (w.num l.x) before (w.nums l.fn.sums) l.fn.from.place (w.num l.fn.from.power)
    → Reaches w.kind down (w.num l.x) before (w.nums l.sums) l.k (w.num l.power)

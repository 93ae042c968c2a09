-- One place a turn.
use Rattle.std.proofs.Common.{ℕ, length}
use Rattle.rules.proofs.Changing.{Changing}
use Rattle.sums.proofs.places.clear.Given as goal

abbrev pub invariant-loop-place : goal.invariant-loop-place
invariant-loop-place g l =
    let w = g.W.Word.width in Changing (λ (j s : ℕ). 0) 0 (length l.fn.places) (w.nums l.fn.places) (w.nums l.place-items) l.place-index

-- One sum a turn, as far as both have sums.
use Rattle.std.proofs.Common.{ℕ, ◌≡◌, get_or}
use Rattle.rules.specs.Field.{minus}
use Rattle.rules.specs.Sums.{common}
use Rattle.rules.proofs.Changing.{Changing}
use Rattle.sums.proofs.places.subtract.Given as goal

abbrev pub invariant-loop-k : goal.invariant-loop-k
invariant-loop-k g l =
    let w = g.W.Word.width in
    Changing (λ (j s : ℕ). minus w.kind s (get_or (w.nums l.others) j 0)) 0 l.both (w.nums l.fn.sums) (w.nums l.sums) l.k
    × (l.both ≡ common (w.nums l.fn.sums) (w.nums l.others))

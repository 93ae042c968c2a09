-- One difference a turn, as far as there are sums and places.
use Rattle.std.proofs.Common.{ℕ, ◌≡◌, min, length}
use Rattle.rules.specs.Sums.{common, differences}
use Rattle.rules.proofs.Mapping.{Mapping}
use Rattle.sums.proofs.places.put_differences.Given as goal

abbrev pub invariant-loop-k : goal.invariant-loop-k
invariant-loop-k g l =
    let w = g.W.Word.width in
    Mapping (λ (d : ℕ). d) l.n (differences w.kind (w.nums l.sums) (w.nums l.others)) (w.nums l.fn.places) (w.nums l.places) l.k
    × (l.n ≡ min (length l.fn.places) (common (w.nums l.sums) (w.nums l.others)))

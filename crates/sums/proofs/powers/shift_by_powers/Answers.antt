-- The first sum or the first fours, and then the others one by one.
use Rattle.std.proofs.Common.{◌≡◌, refl, List, [], ◌∷◌, ◌∙◌, ℕ, Bool, length, arith}
use Rattle.rules.specs.Kind.{Kind}
use Rattle.rules.specs.Sketch.{each}
use Rattle.rules.specs.Sums.{moved_by_powers}
use Rattle.modint.proofs.Width.{nums_length}
use Rattle.sums.proofs.powers.shift_by_powers.Goals as goal

-- No sum moves where there is none.
none : (K : Kind) (down : Bool) (x : ℕ) (l : List ℕ) → length l ≡ 0 → l ≡ moved_by_powers K down x l
unfolding each
none K down x [] e = refl
none K down x (s ∷ l) e = absurd (omega arith)

pub returns-then-n-eq0 : goal.returns-then-n-eq0
returns-then-n-eq0 g c =
    let w = g.W.Word.width in
    none w.kind c.args.down (w.num c.args.x.0) (w.nums c.args.sums.now) (nums_length w c.args.sums.now ∙ c.if-n-eq0.true)

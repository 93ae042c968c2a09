-- Histories: what can happen to a sketch, and what is left of it.
-- Assumes nothing.
use Rattle.std.specs.Prelude.{ℕ, ◌+◌, ◌-◌, ◌≤◌, ◌≡◌, List, [], ◌∷◌, ◌++◌, length}
use Rattle.newton.specs.Members.{count}
use Rattle.rules.specs.Kind.{Kind}
use Rattle.rules.specs.Field.{residue}
use Rattle.rules.specs.Sketch as sketch
use Rattle.rules.specs.Sketch.{Sketch, Last, nothing, code}

-- A sketch is fresh, or comes from others by an insertion, a removal, one of the two subtractions, or by being carried: written with at most m sums
-- and read again.
pub data History : Type 0 where
  fresh : ℕ → History
  insert : History → ℕ → History
  remove : History → ℕ → History
  sub_assign : History → History → History
  sub : History → History → History
  carried : History → ℕ → History

-- The sketch that a history ends in.
abbrev pub sketch_of : Kind → History → Sketch
sketch_of K (fresh threshold) = sketch.fresh threshold
sketch_of K (insert h c) = sketch.insert K (sketch_of K h) c
sketch_of K (remove h c) = sketch.remove K (sketch_of K h) c
sketch_of K (sub_assign h g) = sketch.subtract K (sketch_of K h) (sketch_of K g)
sketch_of K (sub h g) = sketch.subtract K (sketch_of K h) (sketch_of K g)
sketch_of K (carried h m) = sketch.cut (sketch_of K h) m

-- There is a last code.
abbrev pub HasLast : Last → Type 0
HasLast nothing = ⊥
HasLast (code x) = Unit {0}

-- None of its calls is refused: thresholds are in range, those of a subtraction in place agree, and a sketch that is carried has a last code and
-- carries at least one sum.
abbrev pub Allowed : Kind → History → Type 0
Allowed K (fresh threshold) = (1 ≤ threshold) × (threshold ≤ K.greatest)
Allowed K (insert h c) = Allowed K h
Allowed K (remove h c) = Allowed K h
Allowed K (sub_assign h g) = Allowed K h × Allowed K g × ((sketch_of K h).threshold ≡ (sketch_of K g).threshold)
Allowed K (sub h g) = Allowed K h × Allowed K g
Allowed K (carried h m) = Allowed K h × (1 ≤ m) × HasLast (sketch_of K h).last

-- The residues put in and taken out. Those of a sketch that is subtracted change sides.
abbrev mutual
  -- The residues put in, and those taken out of what is subtracted.
  pub put_in : Kind → History → List ℕ
  put_in K (fresh threshold) = []
  put_in K (insert h c) = residue K c ∷ put_in K h
  put_in K (remove h c) = put_in K h
  put_in K (sub_assign h g) = put_in K h ++ taken_out K g
  put_in K (sub h g) = put_in K h ++ taken_out K g
  put_in K (carried h m) = put_in K h

  -- The residues taken out, and those put into what is subtracted.
  pub taken_out : Kind → History → List ℕ
  taken_out K (fresh threshold) = []
  taken_out K (insert h c) = taken_out K h
  taken_out K (remove h c) = residue K c ∷ taken_out K h
  taken_out K (sub_assign h g) = taken_out K h ++ put_in K g
  taken_out K (sub h g) = taken_out K h ++ put_in K g
  taken_out K (carried h m) = taken_out K h

-- The net number of a residue: how often it was put in, less how often it was taken out.
abbrev pub net : Kind → History → ℕ → ℕ
net K h r = count r (put_in K h) - count r (taken_out K h)

-- The premise of the promise: none of the calls is refused, each residue ends with a net number of at least zero, they are n in all, and n is at
-- most the sums kept.
pub record Leaves (K : Kind) (h : History) (n : ℕ) : Type 0 where
  pub allowed : Allowed K h
  pub none_below : (r : ℕ) → count r (taken_out K h) ≤ count r (put_in K h)
  pub in_all : length (put_in K h) ≡ n + length (taken_out K h)
  pub enough : n ≤ (sketch_of K h).threshold

-- How often a residue was taken out beyond what was put in: the size of a net number below zero.
abbrev pub excess : Kind → History → ℕ → ℕ
excess K h r = count r (taken_out K h) - count r (put_in K h)

-- The premise with the roles changed: none of the calls is refused, each residue ends with a net number of at most zero, they are n below zero in all,
-- and n is at most the sums kept.
pub record Exceeds (K : Kind) (h : History) (n : ℕ) : Type 0 where
  pub allowed : Allowed K h
  pub none_above : (r : ℕ) → count r (put_in K h) ≤ count r (taken_out K h)
  pub in_all : length (taken_out K h) ≡ n + length (put_in K h)
  pub few : n ≤ (sketch_of K h).threshold

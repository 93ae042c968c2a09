-- The promises at work, each at its limit: two histories and two packets that meet every premise with nothing to spare.
-- Assumes nothing.
use Prim.Native.Nat.{ℕ}
use mathlib.Core.Path.{◌≡◌, refl}
use mathlib.Core.List.{List, [], ◌∷◌}
use native.Mathlib.Omega.{arith}
use lib.Dec.{lit≤}
use Rattle.numbers.specs.Table.{every}
use Rattle.rules.specs.Kind.{kind32}
use Rattle.rules.specs.Sketch as sketch
use Rattle.rules.specs.Sketch.{Sketch, code, each}
use Rattle.rules.specs.Packet.{bytes, number, all_bytes, all_numbers, packet, sketch_in}
use Rattle.rules.specs.Calls.{given, read}
use Rattle.rules.specs.History.{History, fresh, insert, remove, net, Leaves}
use Rattle.rules.proofs.Each.{every_below}
use Rattle.rules.proofs.WellFormed.{fresh_well_formed, insert_well_formed}
use Rattle.rules.proofs.Packet.{read_back, written_again}
use Rattle.rules.proofs.Promise.{same_net}

-- ---- two histories

-- 7 and the prime put in.
abbrev one_way : History
one_way = insert (insert (fresh 2) 7) 4294967291

-- 0, 9 and 7 put in, and 9 taken out again.
abbrev other_way : History
other_way = remove (insert (insert (insert (fresh 2) 0) 9) 7) 9

-- It leaves two, as many as it has sums.
one_way_leaves : Leaves kind32 one_way 2
unfolding sketch.insert sketch.fresh
one_way_leaves = record { allowed = (lit≤ tt, lit≤ tt); none_below = λ r. omega arith; in_all = refl; enough = lit≤ tt }

-- It leaves two, as many as it has sums.
other_way_leaves : Leaves kind32 other_way 2
unfolding sketch.insert sketch.remove sketch.fresh
other_way_leaves = record { allowed = (lit≤ tt, lit≤ tt); none_below = λ r. omega arith; in_all = refl; enough = lit≤ tt }

-- Both leave two of two sums, and the sums agree: so do the net numbers of every residue.
pub same_net_witness : (r : ℕ) → net kind32 one_way r ≡ net kind32 other_way r
unfolding sketch.insert sketch.remove sketch.fresh each
same_net_witness = same_net kind32 one_way other_way 2 one_way_leaves other_way_leaves refl

-- ---- two packets

-- The greatest code put into a fresh sketch of two sums.
abbrev large : Sketch
large = sketch.insert kind32 (sketch.fresh 2) 4294967295

-- Written with one sum, the least that is read, it is read as the sketch cut to it.
pub read_back_witness : read kind32 (1 ∷ 0 ∷ 0 ∷ 0 ∷ 4 ∷ 0 ∷ 0 ∷ 0 ∷ 4 ∷ 0 ∷ 0 ∷ 0 ∷ [])
    ≡ given (record { threshold = 1; sums = 4 ∷ []; count = 1; last = code 4 })
unfolding packet bytes all_bytes sketch.cut sketch.insert sketch.fresh each
read_back_witness =
    read_back kind32 large (insert_well_formed kind32 (sketch.fresh 2) 4294967295 (fresh_well_formed kind32 2 (lit≤ tt) (lit≤ tt))) 4 refl 1 (lit≤ tt)

-- A packet with a last code of the prime, the greatest sum, and three bytes behind it, as many as are ignored.
abbrev trailed : List ℕ
trailed = 1 ∷ 0 ∷ 0 ∷ 0 ∷ 251 ∷ 255 ∷ 255 ∷ 255 ∷ 250 ∷ 255 ∷ 255 ∷ 255 ∷ 9 ∷ 9 ∷ 9 ∷ []

-- What it is read as.
abbrev trailed_sketch : Sketch
trailed_sketch = record { threshold = 1; sums = 4294967290 ∷ []; count = 1; last = code 0 }

-- It is read as that.
trailed_read : read kind32 trailed ≡ given trailed_sketch
unfolding read sketch_in number all_numbers every
trailed_read = refl

-- Written again it gives its first twelve bytes, with the last code reduced to 0.
pub written_again_witness : packet kind32 1 0 (4294967290 ∷ []) ≡ 1 ∷ 0 ∷ 0 ∷ 0 ∷ 0 ∷ 0 ∷ 0 ∷ 0 ∷ 250 ∷ 255 ∷ 255 ∷ 255 ∷ []
unfolding bytes number every
written_again_witness =
    written_again kind32 trailed trailed_sketch trailed_read (every_below 256 0 trailed refl) 0 refl

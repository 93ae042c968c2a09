-- The tests in the order of the refusals.
use Rattle.std.proofs.Common.{ℕ, List, ◌≡◌, ◌<◌, ◌≤◌, inl, inr, sym, ◌∙◌, length, arith}
use Rattle.std.specs.Prelude.{◌⊎◌}
use Rattle.std.proofs.lemmas.Bool.Decides.{nat_tests}
use Rattle.std.proofs.lemmas.List.{take_rest}
use Rattle.rules.specs.Kind.{Kind}
use Rattle.rules.specs.Sums.{all_below}
use Rattle.rules.specs.Packet.{sums_at, sums_in, sums_of, sketch_in}
use Rattle.rules.specs.Calls.{read_for, refused}
use Rattle.rules.proofs.Bytes.{read_short, read_none, read_many, read_large, read_crowded, read_given}
use Rattle.sums.proofs.packet.sums_to_read.Given.{Over}
use Rattle.sums.proofs.packet.sums_to_read.Goals.{After-sums_below}
use Rattle.sums.proofs.packet.sums_to_read.Goals as goal

pub returns-then-buf-at : goal.returns-then-buf-at
returns-then-buf-at g c =
    let k = g.W.Word.width.kind in
    rw (read_short k c.args.buf.now c.args.places (rw (← c.sums_at-at.ensures) c.if-buf-at.true))

module _ (g : Over) (c : After-sums_below g) where
  -- Whether the sums are below the prime is told of all that stands behind the last code.
  below : c.sums_below.result ≡ all_below g.W.Word.width.kind (sums_of g.W.Word.width.kind c.args.buf.now)
  below = c.sums_below.ensures ∙ rw (take_rest c.args.buf.now c.sums_at-at.result, c.sums_at-at.ensures, c.sums_in-threshold.ensures)

  long : sums_at g.W.Word.width.kind ≤ length c.args.buf.now
  long = rw (← c.sums_at-at.ensures) c.if-buf-at.false

  some : 1 ≤ sums_in g.W.Word.width.kind (length c.args.buf.now)
  some = let here : 1 ≤ c.sums_in-threshold.result = grind (arith, nat_tests) in rw (← c.sums_in-threshold.ensures) here

  few : sums_in g.W.Word.width.kind (length c.args.buf.now) ≤ g.W.Word.width.kind.greatest
  few = let here : c.sums_in-threshold.result ≤ 32 = grind (arith, nat_tests) in rw (← c.sums_in-threshold.ensures, g.W.Word.width.places) here

-- No sum, or more than the greatest threshold.
outside : (K : Kind) (bs : List ℕ) (places : ℕ) → sums_at K ≤ length bs → K.greatest ≡ 32
    → (sums_in K (length bs) < 1) ⊎ (32 < sums_in K (length bs)) → read_for K bs places ≡ refused 7
outside K bs places long greatest (inl none) = read_none K bs places long none
outside K bs places long greatest (inr many) = read_many K bs places long (omega arith) (omega arith)

pub returns-then-not-contains : goal.returns-then-not-contains
returns-then-not-contains g c =
    let w = g.W.Word.width in
    let k = w.kind in
    let buf = c.args.buf.now in
    let out : (c.sums_in-threshold.result < 1) ⊎ (32 < c.sums_in-threshold.result) = grind (arith, nat_tests) in
    let there : (sums_in k (length buf) < 1) ⊎ (32 < sums_in k (length buf)) = rw (← c.sums_in-threshold.ensures) out in
    let long : sums_at k ≤ length buf = rw (← c.sums_at-at.ensures) c.if-buf-at.false in
    rw (outside k buf c.args.places long w.places there)

pub returns-then-not-sums_below : goal.returns-then-not-sums_below
returns-then-not-sums_below g c =
    let k = g.W.Word.width.kind in
    let b = (goal.at.returns-then-not-sums_below g c).After-sums_below in
    rw (read_large k c.args.buf.now c.args.places (long g b) (some g b) (few g b) (sym (below g b) ∙ c.if-not-sums_below.true))

pub returns-then-places-threshold : goal.returns-then-places-threshold
returns-then-places-threshold g c =
    let k = g.W.Word.width.kind in
    let b = (goal.at.returns-then-places-threshold g c).After-sums_below in
    let less : c.args.places < sums_in k (length c.args.buf.now) = rw (← c.sums_in-threshold.ensures) c.if-places-threshold.true in
    rw (read_crowded k c.args.buf.now c.args.places (long g b) (some g b) (few g b) (sym (below g b) ∙ c.if-not-sums_below.false) less)

pub returns : goal.returns
unfolding sketch_in
returns g c =
    let k = g.W.Word.width.kind in
    let b = (goal.at.returns g c).After-sums_below in
    let room : sums_in k (length c.args.buf.now) ≤ c.args.places = rw (← c.sums_in-threshold.ensures) c.if-places-threshold.false in
    let given = read_given k c.args.buf.now c.args.places (long g b) (some g b) (few g b) (sym (below g b) ∙ c.if-not-sums_below.false) room in
    rw (given, c.sums_in-threshold.ensures)

-- The tests in the order of the refusals, and then a head and zeros.
use Rattle.std.proofs.Common.{◌≡◌, ℕ, ◌+◌, ◌≤◌, true, length, replicate, refl, sym, ap, ◌∙◌, arith, le-leb}
use Rattle.std.proofs.Math.Bool.{and-false}
use Rattle.std.proofs.lemmas.Bool.{lt-leb}
use Rattle.rules.specs.Sketch.{in_range}
use Rattle.rules.specs.Words.{head_words, new_in}
use Rattle.rules.proofs.Outcomes.{new_in_numbered}
use Rattle.rules.proofs.Exported.{new_out_of_range, new_short, new_stores}
use Rattle.modint.specs.Width.{Width}
use Rattle.modint.proofs.Width.{nums_length}
use Rattle.exports.proofs.Clauses.{refuses, stored}
use Rattle.exports.proofs.Fronts.{part, put_back}
use Rattle.exports.proofs.power_sum.new.Goals.{then-threshold-lt1-via-then-threshold-lt1, then-threshold-lt1-via-else-threshold-lt1+then-threshold-gt-PLACES}
use Rattle.exports.proofs.power_sum.new.Goals as goal

range : {W : Type 0} (w : Width W) {t : ℕ} → 1 ≤ t → t ≤ 32 → in_range w.kind t ≡ true
range w {t} some few = rw (le-leb 1 t some, le-leb t w.kind.greatest (omega (arith, few, w.places)))

pub returns-then-threshold-lt1 : goal.returns-then-threshold-lt1
returns-then-threshold-lt1 g c =
    let w = g.W.Word.width in
    let t = c.args.threshold in
    refuses (w.nums c.args.out.now) refl (new_out_of_range w.kind t (length c.args.out.now) (elim c.then-threshold-lt1.branch [
      | then-threshold-lt1-via-then-threshold-lt1 v ↦ rw (lt-leb 1 t v.if-threshold-lt1.true)
      | then-threshold-lt1-via-else-threshold-lt1+then-threshold-gt-PLACES v ↦
          rw (lt-leb t w.kind.greatest (omega (arith, w.places, v.if-threshold-gt-PLACES.true)), and-false)
    ]))

pub returns-then-out-end : goal.returns-then-out-end
returns-then-out-end g c =
    let w = g.W.Word.width in
    refuses (w.nums c.args.out.now) refl (new_short w.kind c.args.threshold (length c.args.out.now) (range w c.if-threshold-lt1.false c.if-threshold-gt-PLACES.false)
    (omega (arith, c.if-out-end.true, c.HEAD.ensures, g.met.W.Layout.head)))

pub returns : goal.returns
returns g c =
    let w = g.W.Word.width in
    let to = c.args.out.now in
    let t = c.args.threshold in
    let law = c.HEAD-2.ensures ∙ g.met.W.Layout.head in
    let after = c.put_head.new.words in
    let some = range w c.if-threshold-lt1.false c.if-threshold-gt-PLACES.false in
    let zeros = c.clear.ensures ∙ ap (λ (n : ℕ). replicate n 0) (sym (nums_length w _) ∙ ap length (part w after law refl)) in
    let room : head_words w.kind + t ≤ length (w.nums to) = omega (arith, c.if-out-end.false, c.HEAD.ensures, g.met.W.Layout.head, nums_length w to) in
    let kept = new_stores w.kind (w.nums to) t some (omega (arith, c.HEAD.ensures, c.HEAD-2.ensures)) room refl refl refl c.put_head.ensures zeros in
    stored (w.nums to) (new_in w.kind t (length to)) (new_in_numbered w.kind t (length to)) refl (put_back w after c.clear.new.places _ law)
    (rw (nums_length w to) at kept)

-- Word after word is the head stored.
use Rattle.std.proofs.Common.{◌≡◌, ℕ, ◌≤◌, ◌%◌, ◌^◌, Option, Some, None, List, refl, ap, ◌∙◌, arith}
use Rattle.std.proofs.Math.Seq.{sets}
use Rattle.std.proofs.Math.Nat.{mod-eq_of_lt}
use lib.ListN.{set}
use Rattle.rules.specs.Sketch.{has_code, code_or0}
use Rattle.rules.specs.Words.{count_parts}
use Rattle.modint.specs.Width.{Width}
use Rattle.modint.proofs.Width.{nums_set}
use Rattle.exports.specs.Heads.{last_of}
use Rattle.exports.proofs.Stored.{stored_head}
use Rattle.exports.proofs.layout.put_head.Goals.{in-Some, in-None}
use Rattle.exports.proofs.layout.put_head.Goals as goal

module _ {W : Type 0} (w : Width W) where
  -- Two words are those of a last code, or of none.
  abbrev Says : Option W → W × W → Type 0
  Says l p = (w.num p.0 ≡ has_code (last_of w l)) × (w.num p.1 ≡ code_or0 (last_of w l))

  -- A threshold of a sketch is a word's number.
  kept : {t : ℕ} → t ≤ w.kind.greatest → t % 256 ^ w.kind.code_bytes ≡ t
  kept l = mod-eq_of_lt (omega (arith, l, w.kind.above, w.kind.fits))

  says_code : {x y : W} {l : Option W} {p : W × W} → l ≡ Some x → w.num y ≡ 1 → p ≡ (y, x) → Says l p
  says_code e one is = rw (is, e) (one, refl)

  says_none : {y z : W} {l : Option W} {p : W × W} → l ≡ None → w.num y ≡ 0 → w.num z ≡ 0 → p ≡ (y, z) → Says l p
  says_none e zero zero' is = rw (is, e) (zero, zero')

  -- Two words stored, as numbers.
  two_stored : (l : List W) (i j : ℕ) (x y : W) {before : List ℕ} {m n : ℕ} → w.nums l ≡ before → w.num x ≡ m → w.num y ≡ n
      → w.nums (set (set l i x) j y) ≡ set (set before i m) j n
  two_stored l i j x y e ex ey = nums_set w (set l i x) j y ∙ ap (λ (m : List ℕ). set m j (w.num y)) (nums_set w l i x) ∙ rw (e, ex, ey)

pub returns : goal.returns
returns g c =
    let w = g.W.Word.width in
    let l = c.args.words.now in
    let has = has_code (last_of w c.args.last) in
    let code = code_or0 (last_of w c.args.last) in
    let law = g.met.W.Layout.head in
    let says : Says w c.args.last c.match-last.has = elim c.match-last.branch [
      | in-Some v ↦ says_code w v.in-Some.is v.one.ensures v.has-is
      | in-None v ↦ says_none w v.in-None.is v.zero.ensures v.zero-in-None.ensures v.has-is
    ] in
    let first : w.nums (set l 0 c.low.result) ≡ set (w.nums l) 0 c.args.threshold =
    nums_set w l 0 c.low.result ∙ ap (set (w.nums l) 0) (c.low.ensures ∙ kept w c.requires.1) in
    let counted : w.nums c.put_count.new.words ≡ sets (set (w.nums l) 0 c.args.threshold) 1 (count_parts w.kind c.args.count) =
    c.put_count.ensures ∙ ap (λ (m : List ℕ). sets m 1 (count_parts w.kind c.args.count)) first in
    two_stored w c.put_count.new.words _ _ c.match-last.has.0 c.match-last.has.1 counted says.0 says.1
    ∙ stored_head w.kind (w.nums l) c.args.threshold c.args.count has code (omega (arith, c.HEAD.ensures, law)) (omega (arith, c.HEAD-2.ensures, law))

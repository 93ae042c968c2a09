-- The two words, tested one after the other.
use Rattle.std.proofs.Common.{◌≡◌, ℕ, true, false, eqb, ltb, Some, None, sym, ap, ◌∙◌}
use Rattle.modint.specs.Width.{Width}
use Rattle.exports.specs.Heads.{said_last}
use Rattle.exports.proofs.Equal.{equal, different, not_different}
use Rattle.exports.proofs.words.last_said.Goals as goal

module _ {W : Type 0} (w : Width W) (has x : ℕ) where
  none : eqb has 0 ≡ true → eqb x 0 ≡ true → Some None ≡ said_last w has x
  unfolding said_last
  none e f = rw (e, f)

  a_code_with_0 : eqb has 0 ≡ true → eqb x 0 ≡ false → None ≡ said_last w has x
  unfolding said_last
  a_code_with_0 e f = rw (e, f)

  neither : eqb has 0 ≡ false → eqb has 1 ≡ false → None ≡ said_last w has x
  unfolding said_last
  neither e f = rw (e, f)

  a_code : eqb has 0 ≡ false → eqb has 1 ≡ true → ltb x w.kind.modulus ≡ true → Some (Some (w.of x)) ≡ said_last w has x
  unfolding said_last
  a_code e f l = rw (e, f, l)

  too_large : eqb has 0 ≡ false → eqb has 1 ≡ true → ltb x w.kind.modulus ≡ false → None ≡ said_last w has x
  unfolding said_last
  too_large e f l = rw (e, f, l)

pub returns-then-eq-2 : goal.returns-then-eq-2
returns-then-eq-2 g c =
    let law = g.met.W.Word.same in
    none g.W.Word.width _ _ (equal _ (law _ _) c.zero.ensures c.eq.ensures c.if-eq.true) (equal _ (law _ _) c.zero-then-eq.ensures c.eq-then-eq.ensures c.if-eq-2.true)

pub returns-else-eq-2 : goal.returns-else-eq-2
returns-else-eq-2 g c =
    let law = g.met.W.Word.same in
    a_code_with_0 g.W.Word.width _ _ (equal _ (law _ _) c.zero.ensures c.eq.ensures c.if-eq.true)
    (equal _ (law _ _) c.zero-then-eq.ensures c.eq-then-eq.ensures c.if-eq-2.false)

pub returns-then-ne : goal.returns-then-ne
returns-then-ne g c =
    let law = g.met.W.Word.same in
    neither g.W.Word.width _ _ (equal _ (law _ _) c.zero.ensures c.eq.ensures c.if-eq.false) (different _ (law _ _) c.one.ensures c.ne.ensures c.if-ne.true)

pub returns-then-is_residue : goal.returns-then-is_residue
returns-then-is_residue g c =
    let w = g.W.Word.width in
    let law = g.met.W.Word.same in
    ap (λ x. Some (Some x)) (sym (w.of_num c.args.code))
    ∙ a_code w _ _ (equal _ (law _ _) c.zero.ensures c.eq.ensures c.if-eq.false) (not_different _ (law _ _) c.one.ensures c.ne.ensures c.if-ne.false)
    (sym c.is_residue.ensures ∙ c.if-is_residue.true)

pub returns-else-is_residue : goal.returns-else-is_residue
returns-else-is_residue g c =
    let law = g.met.W.Word.same in
    too_large g.W.Word.width _ _ (equal _ (law _ _) c.zero.ensures c.eq.ensures c.if-eq.false)
    (not_different _ (law _ _) c.one.ensures c.ne.ensures c.if-ne.false)
    (sym c.is_residue.ensures ∙ c.if-is_residue.false)

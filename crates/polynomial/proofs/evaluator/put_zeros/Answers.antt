-- One entry a turn, whatever its value is the value of.
use Rattle.std.proofs.Common.{ℕ, ◌≡◌, ◌<◌, ◌+◌, List, length, get_or, set, sym, ◌∙◌, arith}
use Rattle.std.proofs.lemmas.Bool.{eqb-true, eqb-false}
use Rattle.rules.proofs.Listing.{Zeroing, zeroing_passing, zeroing_failing}
use Rattle.modint.specs.Width.{Width}
use Rattle.modint.proofs.Width.{nums_length, nums_item, nums_set}
use Rattle.polynomial.proofs.evaluator.put_zeros.Goals.{then-eq, else-eq}
use Rattle.polynomial.proofs.evaluator.put_zeros.Goals as goal

module _ {W : Type 0} (w : Width W) {log values before now : List W} {n j : ℕ}
    (z : Zeroing (w.nums log) (w.nums values) (w.nums before) (w.nums now) n j) (l : j < length log) where
  -- An entry whose value is 0.
  passing : (entry : W) → entry ≡ get_or log j entry → get_or (w.nums values) j 0 ≡ 0
      → Zeroing (w.nums log) (w.nums values) (w.nums before) (w.nums (set now n entry)) (n + 1) (j + 1)
  passing entry is zero =
      let stored = nums_item w log j 0 is l in
      rw (nums_set w now n entry, ← stored) (zeroing_passing z (omega (arith, nums_length w log)) zero)

  -- And any other.
  failing : (get_or (w.nums values) j 0 ≡ 0 → ⊥) → Zeroing (w.nums log) (w.nums values) (w.nums before) (w.nums now) n (j + 1)
  failing more = zeroing_failing z (omega (arith, nums_length w log)) more

pub loop-j-preserved : goal.loop-j-preserved
loop-j-preserved g c =
    let w = g.W.Word.width in
    let i = c.loop-j.invariant in
    let l = c.loop-j-test.true in
    let value = nums_item w c.args.values.now c.loop-j.j 0 c.index-values-j.is (omega (arith, c.requires.0)) in
    let same = sym (g.met.W.Word.same c.index-values-j.result c.zero.result) ∙ sym c.eq.ensures in
    let zero = c.zero.ensures in
    elim c.if-eq.branch [
      | then-eq b ↦ rw (b.out-is, b.n-is) (passing w i l c.index-log-j.result c.index-log-j.is (value ∙ eqb-true _ _ (same ∙ b.if-eq.true) ∙ zero))
      | else-eq b ↦ rw (b.out-is, b.n-is) (failing w i l (λ t. eqb-false _ _ (same ∙ b.if-eq.false) (sym value ∙ t ∙ sym zero)))
    ]

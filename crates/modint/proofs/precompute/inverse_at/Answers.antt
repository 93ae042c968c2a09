-- Within the table, the rule of the whole table at one entry; past its end, the inverse of what the prime leaves of i + 1.
use Rattle.std.proofs.Common.{ℕ, ◌<◌, ◌≡◌, ◌%◌, ◌^◌, ap, ap₂, ◌∙◌, length, arith}
use Rattle.std.proofs.Math.Nat.{mod-lt, mod-eq_of_lt}
use Rattle.rules.specs.Field.{residue, plus, inverse, inverse_at}
use Rattle.rules.proofs.Field.{positive, inverse_entry, inverse_past}
use Rattle.modint.specs.Width.{Width}
use Rattle.modint.specs.declared.Residue.{Residue}
use Rattle.modint.specs.Answers.{val, wrap}
use Rattle.modint.proofs.Residues.{residue_of}
use Rattle.modint.proofs.precompute.inverse_at.Goals as goal

module _ {W : Type 0} (w : Width W) where
  -- What the prime leaves of a number is a word's number.
  kept : (i m : ℕ) → m ≡ w.kind.modulus → i % m % 256 ^ w.kind.code_bytes ≡ residue w.kind i
  kept i m e = rw e (mod-eq_of_lt (omega (arith, mod-lt i {m = w.kind.modulus} (positive w.kind), w.kind.fits)))

  -- The inverse of the sum of what the prime leaves of i, and of one, is the inverse of i + 1.
  past : (i : ℕ) {below one : W} {sum : Residue W} → w.num below ≡ residue w.kind i → w.num one ≡ 1
      → sum ≡ wrap w (plus w.kind (residue w.kind (w.num below)) (residue w.kind (w.num one)))
      → wrap w (inverse w.kind (val w sum)) ≡ wrap w (inverse_at w.kind i)
  past i below one sum =
      let terms = ap₂ (λ (x y : ℕ). plus w.kind (residue w.kind x) (residue w.kind y)) below one in
      ap (λ (n : ℕ). wrap w (inverse w.kind n)) (ap (val w) sum ∙ w.num_of _ ∙ terms) ∙ ap (wrap w) (inverse_past w.kind i)

pub returns-then-i-lt32 : goal.returns-then-i-lt32
returns-then-i-lt32 g c =
    let w = g.W.Word.width in
    let within : c.args.i < length c.inverses-table.result = rw c.inverses-table.ensures.all c.if-i-lt32.true in
    residue_of w (inverse_entry w.kind (val w) c.index-table-i.result c.inverses-table.result c.inverses-table.ensures.right c.args.i within)

pub returns : goal.returns
returns g c =
    let w = g.W.Word.width in
    let modulus = c.number.ensures.number ∙ ap w.num c.MODULUS.ensures ∙ g.met.W.Word.modulus in
    c.inv.ensures ∙ past w c.args.i (c.low-below.ensures ∙ kept w c.args.i _ modulus) c.one.ensures c.add.ensures

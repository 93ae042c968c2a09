-- Residues and their numbers, over any width.
-- Assumes nothing.
use Rattle.std.proofs.Common.{ℕ, ◌≡◌, sym, ap, ◌∙◌}
use Rattle.modint.specs.declared.Residue.{Residue}
use Rattle.modint.specs.Width.{Width}
use Rattle.modint.specs.Answers.{val, wrap}

module _ {W : Type 0} (w : Width W) where
  -- The number of the residue with a number is that number.
  pub number : {r : Residue W} {n : ℕ} → r ≡ wrap w n → val w r ≡ n
  number {r} {n} e = ap (val w) e ∙ w.num_of n

  -- A residue of a number is the residue with it.
  pub residue_of : {r : Residue W} {n : ℕ} → val w r ≡ n → r ≡ wrap w n
  residue_of {r} e = ap (λ (x : W). record { 0 = x }) (sym (w.of_num r.0) ∙ ap w.of e)

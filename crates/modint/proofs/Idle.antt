-- Invented numbers of multiplications: no power that answers with one is allowed by its contract, shown at one exponent each and at both widths.
-- Assumes nothing.
use Prim.Native.Nat.{ℕ, suc}
use mathlib.Core.Path.{refl}
use denote.Builtin.{u16, u32}
use contract.Lifetimes.{Lfts}
use Rattle.rules.specs.Field.{power, multiplications_within, multiplications}
use Rattle.rules.specs.Determines.{Holds}
use Rattle.rules.proofs.Determined.{differs}
use Rattle.modint.specs.declared.Powered.{Powered}
use Rattle.modint.proofs.Blocks.{word16, word32, Passed, passing, Numbers, AtBoth}
use Rattle.modint.proofs.Wrong.{itself}
use Rattle.modint.proofs.Residue.pow.Reads as pow
use Rattle.modint.proofs.Residue.pow_multiplications.Reads as pow_multiplications

-- The right power of 2, with a number of multiplications invented by `count`.
abbrev counting : Numbers → (ℕ → ℕ) → ℕ → Powered ℕ
counting w count e = record { value = record { 0 = power w.kind 2 e }; multiplications = count e }

-- What is read off a power is the number of multiplications.
abbrev counted : Powered ℕ → ℕ
counted r = r.multiplications

module _ (p : Passed u16) (q : Passed u32) (κs : Lfts 1) where
  -- No multiplications are counted.
  pub always_zero_falls : AtBoth (passing word16 p pow.Post) (passing word32 q pow.Post)
      (λ post w. Holds (post κs) (record { 0 = 2 }, (10, tt)) (counting w (λ e. 0) 10) → ⊥)
  unfolding multiplications multiplications_within
  always_zero_falls = (differs counted _ refl, differs counted _ refl)

  -- Those of the next exponent are counted.
  pub next_exponent_falls : AtBoth (passing word16 p pow.Post) (passing word32 q pow.Post)
      (λ post w. Holds (post κs) (record { 0 = 2 }, (10, tt)) (counting w (λ e. multiplications (suc e)) 10) → ⊥)
  unfolding multiplications multiplications_within
  next_exponent_falls = (differs counted _ refl, differs counted _ refl)

  -- The number alone is 0 at the greatest exponent.
  pub none_falls : AtBoth (passing word16 p pow_multiplications.Post) (passing word32 q pow_multiplications.Post)
      (λ post w. Holds (post κs) (w.most, tt) 0 → ⊥)
  unfolding multiplications multiplications_within
  none_falls = (differs itself 0 refl, differs itself 0 refl)

  -- The number alone is as large as the exponent.
  pub as_many_as_the_exponent_falls : AtBoth (passing word16 p pow_multiplications.Post) (passing word32 q pow_multiplications.Post)
      (λ post _. Holds (post κs) (10, tt) 10 → ⊥)
  unfolding multiplications multiplications_within
  as_many_as_the_exponent_falls = (differs itself 10 refl, differs itself 10 refl)

-- The greatest word of a slice and the test of its words determine their answers, over any width, and allow neither of two wrong ones at both.
-- Assumes nothing.
use Prim.Native.Nat.{ℕ, ◌-◌}
use mathlib.Core.Path.{refl, sym, ◌∙◌}
use mathlib.Core.Bool.{true, false}
use mathlib.Core.List.{List, [], ◌∷◌}
use contract.Lifetimes.{Lfts}
use denote.Ref.{Bor}
use denote.RattleType.{RattleType}
use denote.Builtin.{u16, u32}
use Rattle.numbers.specs.Table.{every}
use Rattle.rules.specs.Sums as sums
use Rattle.rules.specs.Determines.{Determines, RefusesBoth}
use Rattle.rules.proofs.Determined.{lent, by_equation, differs, both_differ}
use Rattle.modint.proofs.Width.{word_of_number}
use Rattle.modint.proofs.Blocks.{Word, word16, word32, Passed, passing, AtBoth}
use Rattle.modint.proofs.Wrong.{itself, yes_or_no}
use Rattle.modint.proofs.slices.greatest.Reads as greatest
use Rattle.modint.proofs.slices.all_below.Reads as all_below

module _ {T : RattleType} (w : Word T) (p : Passed T) (κs : Lfts 2) (numbers numbers₁ : Bor (List T.Denot)) where
  -- A slice has one greatest word.
  pub greatest_determined : Determines (λ r. passing w p greatest.Post κs (numbers, tt) r (numbers₁, tt))
  greatest_determined r r' e e' = word_of_number w.width (e ∙ sym e')

  -- The test whether all words are below the prime has one answer.
  pub all_below_determined : Determines (λ r. passing w p all_below.Post κs (numbers, tt) r (numbers₁, tt))
  all_below_determined = by_equation _

module _ (p : Passed u16) (q : Passed u32) (κs : Lfts 2) (numbers₁ : Bor (List ℕ)) where
  -- The last word for the greatest, or the first.
  pub greatest_wrong : AtBoth (passing word16 p greatest.Post) (passing word32 q greatest.Post)
      (λ post _. RefusesBoth (λ r. post κs (lent (1 ∷ 3 ∷ 2 ∷ []), tt) r (numbers₁, tt)) 2 1)
  unfolding sums.greatest
  greatest_wrong = (both_differ itself _ _ refl refl, both_differ itself _ _ refl refl)

  -- The prime is said to be below itself, and the number before it not to be.
  pub all_below_wrong : AtBoth (passing word16 p all_below.Post) (passing word32 q all_below.Post)
      (λ post w. (post κs (lent (w.prime ∷ []), tt) true (numbers₁, tt) → ⊥)
      × (post κs (lent ((w.prime - 1) ∷ []), tt) false (numbers₁, tt) → ⊥))
  unfolding every
  all_below_wrong =
      ((differs yes_or_no true refl, differs yes_or_no false refl), (differs yes_or_no true refl, differs yes_or_no false refl))

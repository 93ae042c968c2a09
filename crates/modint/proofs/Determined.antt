-- Every public call of the field determines its result: any two results that its contract allows for one input are equal. The generic calls do so
-- over any width, a word's own at both.
-- Assumes nothing.
use Rattle.std.proofs.Common.{ℕ, ◌≡◌, ◌<◌, sym, ◌∙◌, subst, true, List, length}
use Rattle.std.proofs.lemmas.List.{ext_get_or}
use denote.RattleType.{RattleType}
use contract.Lifetimes.{Lfts}
use Rattle.rules.specs.Determines.{Holds, Determines}
use Rattle.rules.specs.Field.{inverses_right}
use Rattle.rules.proofs.Determined.{by_equation}
use Rattle.rules.proofs.Field.{inverse_entry}
use Rattle.modint.specs.Width.{Width, width16, width32}
use Rattle.modint.specs.Answers.{val, wrap}
use Rattle.modint.proofs.Residues.{residue_of}
use Rattle.modint.specs.declared.Code.{Code}
use Rattle.modint.specs.declared.Residue.{Residue}
use Rattle.modint.proofs.Blocks.{Word, Passed, passing, AtBoth}
use Rattle.modint.proofs.narrow.U16Word.zero.Reads as zero16
use Rattle.modint.proofs.wide.U32Word.zero.Reads as zero32
use Rattle.modint.proofs.narrow.U16Word.one.Reads as one16
use Rattle.modint.proofs.wide.U32Word.one.Reads as one32
use Rattle.modint.proofs.narrow.U16Word.low.Reads as low16
use Rattle.modint.proofs.wide.U32Word.low.Reads as low32
use Rattle.modint.proofs.narrow.U16Word.number.Reads as number16
use Rattle.modint.proofs.wide.U32Word.number.Reads as number32
use Rattle.modint.proofs.narrow.U16Word.is_residue.Reads as is_residue16
use Rattle.modint.proofs.wide.U32Word.is_residue.Reads as is_residue32
use Rattle.modint.proofs.narrow.U16Word.greater_of.Reads as greater_of16
use Rattle.modint.proofs.wide.U32Word.greater_of.Reads as greater_of32
use Rattle.modint.proofs.narrow.U16Word.below.Reads as below16
use Rattle.modint.proofs.wide.U32Word.below.Reads as below32
use Rattle.modint.proofs.narrow.U16Word.plus.Reads as plus16
use Rattle.modint.proofs.wide.U32Word.plus.Reads as plus32
use Rattle.modint.proofs.narrow.U16Word.minus.Reads as minus16
use Rattle.modint.proofs.wide.U32Word.minus.Reads as minus32
use Rattle.modint.proofs.narrow.U16Word.times.Reads as times16
use Rattle.modint.proofs.wide.U32Word.times.Reads as times32
use Rattle.modint.proofs.narrow.U16Word.times_plus.Reads as times_plus16
use Rattle.modint.proofs.wide.U32Word.times_plus.Reads as times_plus32
use Rattle.modint.proofs.narrow.U16Word.inverses.Reads as inverses16
use Rattle.modint.proofs.wide.U32Word.inverses.Reads as inverses32
use Rattle.modint.proofs.Residue.reduce.Reads as reduce
use Rattle.modint.proofs.Residue.zero.Reads as zero
use Rattle.modint.proofs.Residue.value.Reads as value
use Rattle.modint.proofs.ResidueAdd.add.Reads as residue_add
use Rattle.modint.proofs.ResidueSub.sub.Reads as residue_sub
use Rattle.modint.proofs.ResidueNeg.neg.Reads as residue_neg
use Rattle.modint.proofs.ResidueMul.mul.Reads as residue_mul
use Rattle.modint.proofs.Residue.mul_add.Reads as mul_add
use Rattle.modint.proofs.Residue.pow.Reads as residue_pow
use Rattle.modint.proofs.Residue.pow_multiplications.Reads as pow_multiplications
use Rattle.modint.proofs.Residue.inv.Reads as residue_inv
use Rattle.modint.proofs.CodeAdd.add.Reads as code_add
use Rattle.modint.proofs.CodeSub.sub.Reads as code_sub
use Rattle.modint.proofs.CodeNeg.neg.Reads as code_neg
use Rattle.modint.proofs.CodeMul.mul.Reads as code_mul
use Rattle.modint.proofs.Code.pow.Reads as code_pow
use Rattle.modint.proofs.Code.inv.Reads as code_inv
use Rattle.modint.proofs.precompute.inverse_at.Reads as inverse_at

-- ---- words

-- The word zero has one answer.
pub word_zero_determined : AtBoth zero16.Post zero32.Post (λ post _. Determines (Holds (post tt) tt))
word_zero_determined = (by_equation _, by_equation _)

-- The word one has one answer.
pub one_determined : AtBoth one16.Post one32.Post (λ post _. Determines (Holds (post tt) tt))
one_determined = (by_equation _, by_equation _)

-- The word of a number's low bits has one answer.
pub low_determined : AtBoth low16.Post low32.Post (λ post _. (number : ℕ) → Determines (Holds (post tt) (number, tt)))
low_determined = (λ number. by_equation _, λ number. by_equation _)

-- The number of a word has one answer.
pub number_determined : AtBoth number16.Post number32.Post (λ post _. (a : ℕ) → Determines (Holds (post tt) (a, tt)))
number_determined = (λ a r s p q. p.0 ∙ sym q.0, λ a r s p q. p.0 ∙ sym q.0)

-- The test whether a word is below the prime has one answer.
pub is_residue_determined : AtBoth is_residue16.Post is_residue32.Post (λ post _. (a : ℕ) → Determines (Holds (post tt) (a, tt)))
is_residue_determined = (λ a. by_equation _, λ a. by_equation _)

-- The greater of two words has one answer.
pub greater_of_determined : AtBoth greater_of16.Post greater_of32.Post (λ post _. (a b : ℕ) → Determines (Holds (post tt) (a, (b, tt))))
greater_of_determined = (λ a b. by_equation _, λ a b. by_equation _)

-- Reducing a word has one answer.
pub below_determined : AtBoth below16.Post below32.Post (λ post _. (a : ℕ) → Determines (Holds (post tt) (a, tt)))
below_determined = (λ a. by_equation _, λ a. by_equation _)

-- Adding two words has one answer.
pub plus_determined : AtBoth plus16.Post plus32.Post (λ post _. (a b : ℕ) → Determines (Holds (post tt) (a, (b, tt))))
plus_determined = (λ a b. by_equation _, λ a b. by_equation _)

-- Subtracting one word from another has one answer.
pub minus_determined : AtBoth minus16.Post minus32.Post (λ post _. (a b : ℕ) → Determines (Holds (post tt) (a, (b, tt))))
minus_determined = (λ a b. by_equation _, λ a b. by_equation _)

-- Multiplying two words has one answer.
pub times_determined : AtBoth times16.Post times32.Post (λ post _. (a b : ℕ) → Determines (Holds (post tt) (a, (b, tt))))
times_determined = (λ a b. by_equation _, λ a b. by_equation _)

-- A product of words with a further term has one answer.
pub times_plus_determined : AtBoth times_plus16.Post times_plus32.Post (λ post _. (a b c : ℕ) → Determines (Holds (post tt) (a, (b, (c, tt)))))
times_plus_determined = (λ a b c. by_equation _, λ a b c. by_equation _)

-- Two tables whose entries are all right are one.
one_table : {A : Type 0} (w : Width A) (l m : List (Residue A)) → inverses_right w.kind (val w) l ≡ true → inverses_right w.kind (val w) m ≡ true
    → length l ≡ length m → l ≡ m
one_table w l m rl rm same =
    ext_get_or (wrap w 0) l m same (λ i h. residue_of w (inverse_entry w.kind (val w) (wrap w 0) l rl i h)
    ∙ sym (residue_of w (inverse_entry w.kind (val w) (wrap w 0) m rm i (subst (λ (n : ℕ). i < n) same h))))

-- The table of inverses has one answer.
pub inverses_determined : AtBoth inverses16.Post inverses32.Post (λ post _. Determines (Holds (post tt) tt))
inverses_determined = (λ r s p q. one_table width16 r s p.0 q.0 (p.1 ∙ sym q.1), λ r s p q. one_table width32 r s p.0 q.0 (p.1 ∙ sym q.1))

-- ---- residues, codes and the table, over any width

module _ {T : RattleType} (w : Word T) (p : Passed T) (κs : Lfts 1) where
  -- Reducing a code has one answer.
  pub reduce_determined : (code : Code T.Denot) → Determines (Holds (passing w p reduce.Post κs) (code, tt))
  reduce_determined code = by_equation _

  -- The residue zero has one answer.
  pub zero_determined : Determines (Holds (passing w p zero.Post κs) tt)
  zero_determined = by_equation _

  -- The word of a residue has one answer.
  pub value_determined : (a : Residue T.Denot) → Determines (Holds (passing w p value.Post κs) (a, tt))
  value_determined a = by_equation _

  -- Adding two residues has one answer.
  pub residue_add_determined : (a b : Residue T.Denot) → Determines (Holds (passing w p residue_add.Post κs) (a, (b, tt)))
  residue_add_determined a b = by_equation _

  -- Subtracting one residue from another has one answer.
  pub residue_sub_determined : (a b : Residue T.Denot) → Determines (Holds (passing w p residue_sub.Post κs) (a, (b, tt)))
  residue_sub_determined a b = by_equation _

  -- The negative of a residue has one answer.
  pub residue_neg_determined : (a : Residue T.Denot) → Determines (Holds (passing w p residue_neg.Post κs) (a, tt))
  residue_neg_determined a = by_equation _

  -- Multiplying two residues has one answer.
  pub residue_mul_determined : (a b : Residue T.Denot) → Determines (Holds (passing w p residue_mul.Post κs) (a, (b, tt)))
  residue_mul_determined a b = by_equation _

  -- A product of residues with a further code has one answer.
  pub mul_add_determined : (a b : Residue T.Denot) (term : Code T.Denot) → Determines (Holds (passing w p mul_add.Post κs) (a, (b, (term, tt))))
  mul_add_determined a b term = by_equation _

  -- The power of a residue, with its number of multiplications, has one answer.
  pub residue_pow_determined : (a : Residue T.Denot) (e : T.Denot) → Determines (Holds (passing w p residue_pow.Post κs) (a, (e, tt)))
  residue_pow_determined a e = by_equation _

  -- The number of multiplications for an exponent has one answer.
  pub pow_multiplications_determined : (e : T.Denot) → Determines (Holds (passing w p pow_multiplications.Post κs) (e, tt))
  pow_multiplications_determined e = by_equation _

  -- The inverse of a residue has one answer.
  pub residue_inv_determined : (a : Residue T.Denot) → Determines (Holds (passing w p residue_inv.Post κs) (a, tt))
  residue_inv_determined a = by_equation _

  -- Adding two codes has one answer.
  pub code_add_determined : (a b : Code T.Denot) → Determines (Holds (passing w p code_add.Post κs) (a, (b, tt)))
  code_add_determined a b = by_equation _

  -- Subtracting one code from another has one answer.
  pub code_sub_determined : (a b : Code T.Denot) → Determines (Holds (passing w p code_sub.Post κs) (a, (b, tt)))
  code_sub_determined a b = by_equation _

  -- The negative of a code has one answer.
  pub code_neg_determined : (a : Code T.Denot) → Determines (Holds (passing w p code_neg.Post κs) (a, tt))
  code_neg_determined a = by_equation _

  -- Multiplying two codes has one answer.
  pub code_mul_determined : (a b : Code T.Denot) → Determines (Holds (passing w p code_mul.Post κs) (a, (b, tt)))
  code_mul_determined a b = by_equation _

  -- The power of a code, with its number of multiplications, has one answer.
  pub code_pow_determined : (a : Code T.Denot) (e : T.Denot) → Determines (Holds (passing w p code_pow.Post κs) (a, (e, tt)))
  code_pow_determined a e = by_equation _

  -- The inverse of a code has one answer.
  pub code_inv_determined : (a : Code T.Denot) → Determines (Holds (passing w p code_inv.Post κs) (a, tt))
  code_inv_determined a = by_equation _

  -- An entry of the table of inverses has one answer.
  pub inverse_at_determined : (i : ℕ) → Determines (Holds (passing w p inverse_at.Post κs) (i, tt))
  inverse_at_determined i = by_equation _

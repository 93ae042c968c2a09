-- Two wrong answers for each public call of the field, at one input each and at both widths: the contract allows neither.
-- Assumes nothing.
use Prim.Native.Nat.{ℕ, ◌+◌, ◌-◌}
use mathlib.Core.Path.{◌≡◌, refl}
use mathlib.Core.Bool.{Bool, true, false, cond}
use lib.Dec.{eqb}
use mathlib.Core.List.{[], ◌∷◌}
use lib.ListN.{replicate}
use Rattle.numbers.specs.Table.{every}
use denote.Builtin.{u16, u32}
use contract.Lifetimes.{Lfts}
use Rattle.numbers.specs.Power.{power_within, power_mod}
use Rattle.rules.specs.Field.{residue, multiplications_within, multiplications, inverse, inverses_right}
use Rattle.rules.specs.Determines.{Holds, RefusesBoth}
use Rattle.rules.proofs.Determined.{differs, both_differ}
use Rattle.modint.specs.declared.Code.{Code}
use Rattle.modint.specs.declared.Residue.{Residue}
use Rattle.modint.specs.declared.Powered.{Powered}
use Rattle.modint.proofs.Blocks.{word16, word32, Passed, passing, AtBoth}
use Rattle.modint.proofs.narrow.U16Word.zero.Reads as zero16
use Rattle.modint.proofs.wide.U32Word.zero.Reads as zero32
use Rattle.modint.proofs.narrow.U16Word.one.Reads as one16
use Rattle.modint.proofs.wide.U32Word.one.Reads as one32
use Rattle.modint.proofs.narrow.U16Word.low.Reads as low16
use Rattle.modint.proofs.wide.U32Word.low.Reads as low32
use Rattle.modint.proofs.narrow.U16Word.number.Reads as number16
use Rattle.modint.proofs.wide.U32Word.number.Reads as number32
use Rattle.modint.proofs.narrow.U16Word.is_residue.Reads as is_residue16
use Rattle.modint.proofs.wide.U32Word.is_residue.Reads as is_residue32
use Rattle.modint.proofs.narrow.U16Word.greater_of.Reads as greater_of16
use Rattle.modint.proofs.wide.U32Word.greater_of.Reads as greater_of32
use Rattle.modint.proofs.narrow.U16Word.below.Reads as below16
use Rattle.modint.proofs.wide.U32Word.below.Reads as below32
use Rattle.modint.proofs.narrow.U16Word.plus.Reads as plus16
use Rattle.modint.proofs.wide.U32Word.plus.Reads as plus32
use Rattle.modint.proofs.narrow.U16Word.minus.Reads as minus16
use Rattle.modint.proofs.wide.U32Word.minus.Reads as minus32
use Rattle.modint.proofs.narrow.U16Word.times.Reads as times16
use Rattle.modint.proofs.wide.U32Word.times.Reads as times32
use Rattle.modint.proofs.narrow.U16Word.times_plus.Reads as times_plus16
use Rattle.modint.proofs.wide.U32Word.times_plus.Reads as times_plus32
use Rattle.modint.proofs.narrow.U16Word.inverses.Reads as inverses16
use Rattle.modint.proofs.wide.U32Word.inverses.Reads as inverses32
use Rattle.modint.proofs.Residue.reduce.Reads as reduce
use Rattle.modint.proofs.Residue.zero.Reads as zero
use Rattle.modint.proofs.Residue.value.Reads as value
use Rattle.modint.proofs.ResidueAdd.add.Reads as residue_add
use Rattle.modint.proofs.ResidueSub.sub.Reads as residue_sub
use Rattle.modint.proofs.ResidueNeg.neg.Reads as residue_neg
use Rattle.modint.proofs.ResidueMul.mul.Reads as residue_mul
use Rattle.modint.proofs.Residue.mul_add.Reads as mul_add
use Rattle.modint.proofs.Residue.pow.Reads as residue_pow
use Rattle.modint.proofs.Residue.pow_multiplications.Reads as pow_multiplications
use Rattle.modint.proofs.Residue.inv.Reads as residue_inv
use Rattle.modint.proofs.CodeAdd.add.Reads as code_add
use Rattle.modint.proofs.CodeSub.sub.Reads as code_sub
use Rattle.modint.proofs.CodeNeg.neg.Reads as code_neg
use Rattle.modint.proofs.CodeMul.mul.Reads as code_mul
use Rattle.modint.proofs.Code.pow.Reads as code_pow
use Rattle.modint.proofs.Code.inv.Reads as code_inv
use Rattle.modint.proofs.precompute.inverse_at.Reads as inverse_at

-- The code with this number.
abbrev code : ℕ → Code ℕ
code n = record { 0 = n }

-- The residue with this number.
abbrev wrap : ℕ → Residue ℕ
wrap n = record { 0 = n }

-- What is read off a residue is its number.
abbrev val : Residue ℕ → ℕ
val r = r.0

-- What is read off a number is the number.
abbrev pub itself : ℕ → ℕ
itself n = n

-- What is read off a test.
abbrev pub yes_or_no : Bool → ℕ
yes_or_no b = cond b 1 0

-- ---- words

-- One, or the prime, for zero.
pub word_zero_wrong : AtBoth zero16.Post zero32.Post (λ post w. RefusesBoth (Holds (post tt) tt) 1 w.prime)
word_zero_wrong = (both_differ itself _ _ refl refl, both_differ itself _ _ refl refl)

-- Zero for one, or two.
pub one_wrong : AtBoth one16.Post one32.Post (λ post _. RefusesBoth (Holds (post tt) tt) 0 2)
one_wrong = (both_differ itself _ _ refl refl, both_differ itself _ _ refl refl)

-- A number past the greatest word is kept whole, or becomes the greatest word.
pub low_wrong : AtBoth low16.Post low32.Post (λ post w. RefusesBoth (Holds (post tt) (w.most + 3, tt)) (w.most + 3) w.most)
low_wrong = (both_differ itself _ _ refl refl, both_differ itself _ _ refl refl)

-- One more than the word, or 0.
pub number_wrong : AtBoth number16.Post number32.Post (λ post w. RefusesBoth (Holds (post tt) (w.most, tt)) (w.most + 1) 0)
number_wrong =
    ((λ p. differs itself _ refl p.0, λ p. differs itself _ refl p.0), (λ p. differs itself _ refl p.0, λ p. differs itself _ refl p.0))

-- The prime is said to be a residue, and the number before it not to be.
pub is_residue_wrong : AtBoth is_residue16.Post is_residue32.Post
    (λ post w. (Holds (post tt) (w.prime, tt) true → ⊥) × (Holds (post tt) (w.prime - 1, tt) false → ⊥))
is_residue_wrong = ((differs yes_or_no true refl, differs yes_or_no false refl), (differs yes_or_no true refl, differs yes_or_no false refl))

-- The smaller, or the sum.
pub greater_of_wrong : AtBoth greater_of16.Post greater_of32.Post (λ post _. RefusesBoth (Holds (post tt) (2, (3, tt))) 2 5)
greater_of_wrong = (both_differ itself _ _ refl refl, both_differ itself _ _ refl refl)

-- The prime is let through, or taken off as if it were one more than the greatest word.
pub below_wrong : AtBoth below16.Post below32.Post (λ post w. RefusesBoth (Holds (post tt) (w.prime, tt)) w.prime w.most)
below_wrong = (both_differ itself _ _ refl refl, both_differ itself _ _ refl refl)

-- A sum is not reduced, or reduced by one too many.
pub plus_wrong : AtBoth plus16.Post plus32.Post (λ post w. RefusesBoth (Holds (post tt) (w.prime - 1, (1, tt))) w.prime 1)
plus_wrong = (both_differ itself _ _ refl refl, both_differ itself _ _ refl refl)

-- A difference is taken the other way round, or as words wrap.
pub minus_wrong : AtBoth minus16.Post minus32.Post (λ post w. RefusesBoth (Holds (post tt) (0, (1, tt))) 1 w.most)
minus_wrong = (both_differ itself _ _ refl refl, both_differ itself _ _ refl refl)

-- The square of -1 is 4, or is not reduced.
pub times_wrong : AtBoth times16.Post times32.Post (λ post w. RefusesBoth (Holds (post tt) (w.prime - 1, (w.prime - 1, tt))) 4 (w.prime - 1))
times_wrong = (both_differ itself _ _ refl refl, both_differ itself _ _ refl refl)

-- The term is left out, or multiplied too.
pub times_plus_wrong : AtBoth times_plus16.Post times_plus32.Post (λ post _. RefusesBoth (Holds (post tt) (2, (3, (4, tt)))) 6 14)
times_plus_wrong = (both_differ itself _ _ refl refl, both_differ itself _ _ refl refl)

-- The table ends at its first entry, or has that at each place.
pub inverses_wrong : AtBoth inverses16.Post inverses32.Post (λ post _. RefusesBoth (Holds (post tt) tt) (wrap 1 ∷ []) (replicate 32 (wrap 1)))
unfolding inverses_right every power_mod power_within
inverses_wrong =
    ((λ p. differs itself _ refl p.1, λ p. differs yes_or_no _ refl p.0), (λ p. differs itself _ refl p.1, λ p. differs yes_or_no _ refl p.0))

-- The power of 2 with the exponent 10: half of it, or one multiplication too many.
abbrev halved : Powered ℕ
halved = record { value = wrap 512; multiplications = 4 }

abbrev overcounted : Powered ℕ
overcounted = record { value = wrap 1024; multiplications = 5 }

-- Neither is allowed where the rule has another number and another count.
neither : {rule : Powered ℕ} → eqb 512 (val rule.value) ≡ false → eqb 5 rule.multiplications ≡ false
    → RefusesBoth (λ (r : Powered ℕ). r ≡ rule) halved overcounted
neither number count = (differs (λ (r : Powered ℕ). val r.value) halved number, differs (λ (r : Powered ℕ). r.multiplications) overcounted count)

module _ (p : Passed u16) (q : Passed u32) (κs : Lfts 1) where
  -- ---- residues

  -- The prime is let through, or reduced to another residue.
  pub reduce_wrong : AtBoth (passing word16 p reduce.Post) (passing word32 q reduce.Post)
      (λ post w. RefusesBoth (Holds (post κs) (code w.prime, tt)) (wrap w.prime) (wrap 4))
  reduce_wrong = (both_differ val _ _ refl refl, both_differ val _ _ refl refl)

  -- One, or the prime, for zero.
  pub zero_wrong : AtBoth (passing word16 p zero.Post) (passing word32 q zero.Post)
      (λ post w. RefusesBoth (Holds (post κs) tt) (wrap 1) (wrap w.prime))
  zero_wrong = (both_differ val _ _ refl refl, both_differ val _ _ refl refl)

  -- A number is reduced when it is shown.
  pub value_wrong : AtBoth (passing word16 p value.Post) (passing word32 q value.Post)
      (λ post w. RefusesBoth (Holds (post κs) (wrap w.prime, tt)) 0 4)
  value_wrong = (both_differ itself _ _ refl refl, both_differ itself _ _ refl refl)

  -- A sum is not reduced, or is one too small.
  pub residue_add_wrong : AtBoth (passing word16 p residue_add.Post) (passing word32 q residue_add.Post)
      (λ post w. RefusesBoth (Holds (post κs) (wrap (w.prime - 1), (wrap 1, tt))) (wrap w.prime) (wrap (w.prime - 1)))
  residue_add_wrong = (both_differ val _ _ refl refl, both_differ val _ _ refl refl)

  -- A difference is taken the other way round, or as words wrap.
  pub residue_sub_wrong : AtBoth (passing word16 p residue_sub.Post) (passing word32 q residue_sub.Post)
      (λ post w. RefusesBoth (Holds (post κs) (wrap 0, (wrap 1, tt))) (wrap 1) (wrap w.most))
  residue_sub_wrong = (both_differ val _ _ refl refl, both_differ val _ _ refl refl)

  -- A number for its negative, or the negative as words wrap.
  pub residue_neg_wrong : AtBoth (passing word16 p residue_neg.Post) (passing word32 q residue_neg.Post)
      (λ post w. RefusesBoth (Holds (post κs) (wrap 1, tt)) (wrap 1) (wrap w.most))
  residue_neg_wrong = (both_differ val _ _ refl refl, both_differ val _ _ refl refl)

  -- The square of -1 is 4, or -1.
  pub residue_mul_wrong : AtBoth (passing word16 p residue_mul.Post) (passing word32 q residue_mul.Post)
      (λ post w. RefusesBoth (Holds (post κs) (wrap (w.prime - 1), (wrap (w.prime - 1), tt))) (wrap 4) (wrap (w.prime - 1)))
  residue_mul_wrong = (both_differ val _ _ refl refl, both_differ val _ _ refl refl)

  -- The term is left out, or multiplied too.
  pub mul_add_wrong : AtBoth (passing word16 p mul_add.Post) (passing word32 q mul_add.Post)
      (λ post _. RefusesBoth (Holds (post κs) (wrap 2, (wrap 3, (code 4, tt)))) (wrap 6) (wrap 14))
  mul_add_wrong = (both_differ val _ _ refl refl, both_differ val _ _ refl refl)

  -- One multiplication too many, or as many as the exponent.
  pub pow_multiplications_wrong : AtBoth (passing word16 p pow_multiplications.Post) (passing word32 q pow_multiplications.Post)
      (λ post _. RefusesBoth (Holds (post κs) (10, tt)) 5 10)
  unfolding multiplications multiplications_within
  pow_multiplications_wrong = (both_differ itself _ _ refl refl, both_differ itself _ _ refl refl)

  -- One for the inverse of 2, or a number near it.
  pub residue_inv_wrong : AtBoth (passing word16 p residue_inv.Post) (passing word32 q residue_inv.Post)
      (λ post w. RefusesBoth (Holds (post κs) (wrap 2, tt)) (wrap 1) (wrap (inverse w.kind 2 - 1)))
  unfolding power_mod power_within
  residue_inv_wrong = (both_differ val _ _ refl refl, both_differ val _ _ refl refl)

  -- ---- codes

  -- Codes are added as words wrap, or one too small.
  pub code_add_wrong : AtBoth (passing word16 p code_add.Post) (passing word32 q code_add.Post)
      (λ post w. RefusesBoth (Holds (post κs) (code w.most, (code 1, tt))) (wrap 0) (wrap (residue w.kind w.most)))
  code_add_wrong = (both_differ val _ _ refl refl, both_differ val _ _ refl refl)

  -- A difference is taken as words wrap, or the other way round.
  pub code_sub_wrong : AtBoth (passing word16 p code_sub.Post) (passing word32 q code_sub.Post)
      (λ post w. RefusesBoth (Holds (post κs) (code 0, (code w.most, tt))) (wrap 1) (wrap (residue w.kind w.most)))
  code_sub_wrong = (both_differ val _ _ refl refl, both_differ val _ _ refl refl)

  -- The negative as words wrap, or the residue itself.
  pub code_neg_wrong : AtBoth (passing word16 p code_neg.Post) (passing word32 q code_neg.Post)
      (λ post w. RefusesBoth (Holds (post κs) (code w.most, tt)) (wrap 1) (wrap (residue w.kind w.most)))
  code_neg_wrong = (both_differ val _ _ refl refl, both_differ val _ _ refl refl)

  -- The square as words wrap, or the residue itself.
  pub code_mul_wrong : AtBoth (passing word16 p code_mul.Post) (passing word32 q code_mul.Post)
      (λ post w. RefusesBoth (Holds (post κs) (code w.most, (code w.most, tt))) (wrap 1) (wrap (residue w.kind w.most)))
  code_mul_wrong = (both_differ val _ _ refl refl, both_differ val _ _ refl refl)

  -- The code, or its residue, for the inverse.
  pub code_inv_wrong : AtBoth (passing word16 p code_inv.Post) (passing word32 q code_inv.Post)
      (λ post w. RefusesBoth (Holds (post κs) (code (w.prime + 2), tt)) (wrap (w.prime + 2)) (wrap 2))
  unfolding power_mod power_within
  code_inv_wrong = (both_differ val _ _ refl refl, both_differ val _ _ refl refl)

  -- Entry 1 is the inverse of 1, or that of 3.
  pub inverse_at_wrong : AtBoth (passing word16 p inverse_at.Post) (passing word32 q inverse_at.Post)
      (λ post w. RefusesBoth (Holds (post κs) (1, tt)) (wrap 1) (wrap (inverse w.kind 3)))
  unfolding power_mod power_within
  inverse_at_wrong = (both_differ val _ _ refl refl, both_differ val _ _ refl refl)

  -- ---- powers

  -- The power of the residue 2 is halved, or one multiplication too many is counted.
  pub residue_pow_wrong : AtBoth (passing word16 p residue_pow.Post) (passing word32 q residue_pow.Post)
      (λ post _. RefusesBoth (Holds (post κs) (wrap 2, (10, tt))) halved overcounted)
  unfolding power_mod power_within multiplications multiplications_within
  residue_pow_wrong = (neither refl refl, neither refl refl)

  -- So for the power of a code whose residue is 2.
  pub code_pow_wrong : AtBoth (passing word16 p code_pow.Post) (passing word32 q code_pow.Post)
      (λ post w. RefusesBoth (Holds (post κs) (code (w.prime + 2), (10, tt))) halved overcounted)
  unfolding power_mod power_within multiplications multiplications_within
  code_pow_wrong = (neither refl refl, neither refl refl)

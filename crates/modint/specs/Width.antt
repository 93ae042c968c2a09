-- A width of code: which numbers its words are, and the kind of sketch whose codes they are.
-- Assumes nothing.
use Rattle.std.specs.Prelude.{ℕ, ◌≡◌, refl, List, [], ◌∷◌, map}
use Rattle.std.proofs.Common.{ap}
use Rattle.rules.specs.Kind.{Kind, kind16, kind32}

-- Each word is a number and each number a word, as far as proofs go: that numbers fit their words is told where words are. `nums` has the numbers of
-- a list of words, and is the list itself where words are numbers already.
pub record Width (W : Type 0) : Type 0 where
  pub kind : Kind
  pub num : W → ℕ
  pub of : ℕ → W
  pub nums : List W → List ℕ
  pub num_of : (n : ℕ) → num (of n) ≡ n
  pub of_num : (x : W) → of (num x) ≡ x
  pub nums_are : (l : List W) → nums l ≡ map num l
  pub places : kind.greatest ≡ 32

-- Numbers are their own numbers.
pub numbers_are : (l : List ℕ) → l ≡ map (λ (n : ℕ). n) l
numbers_are [] = refl
numbers_are (n ∷ l) = ap (λ (m : List ℕ). n ∷ m) (numbers_are l)

-- Codes of 16 bits.
abbrev pub width16 : Width ℕ
width16 = record {
  kind = kind16;
  num = λ n. n;
  of = λ n. n;
  nums = λ l. l;
  num_of = λ n. refl;
  of_num = λ n. refl;
  nums_are = numbers_are;
  places = refl;
}

-- Codes of 32 bits.
abbrev pub width32 : Width ℕ
width32 = record {
  kind = kind32;
  num = λ n. n;
  of = λ n. n;
  nums = λ l. l;
  num_of = λ n. refl;
  of_num = λ n. refl;
  nums_are = numbers_are;
  places = refl;
}

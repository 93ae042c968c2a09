-- What an equation for numbers determines: a word, and the words that a lent slice holds. Over any width.
-- Assumes nothing.
use Rattle.std.proofs.Common.{◌≡◌, ℕ, List, MutBor, sym, ◌∙◌}
use Rattle.rules.specs.Determines.{Determines}
use Rattle.modint.specs.Width.{Width}
use Rattle.modint.proofs.Width.{word_of_number, words_of_numbers}

-- A promise determines its result and the words that a lent slice holds at the end. Where words are numbers, it determines both.
abbrev pub DeterminesWords : {A W : Type 0} → (A → MutBor (List W) → Type 0) → Type 0
DeterminesWords {A} {W} promise = (r r' : A) (s s' : MutBor (List W)) → promise r s → promise r' s' → (r ≡ r') × (s.now ≡ s'.now)

-- An equation for the number of a word determines the word.
pub by_number : {W : Type 0} (w : Width W) (rule : ℕ) → Determines (λ (r : W). w.num r ≡ rule)
by_number w rule r r' p p' = word_of_number w (p ∙ sym p')

-- An equation for the result and one for the numbers of words determine both.
pub by_numbers : {A W : Type 0} (w : Width W) (rule : A) (left : List ℕ) → DeterminesWords (λ (r : A) (s : MutBor (List W)). (r ≡ rule) × (w.nums s.now ≡ left))
by_numbers w rule left r r' s s' p p' = (p.0 ∙ sym p'.0, words_of_numbers w s.now s'.now (p.1 ∙ sym p'.1))

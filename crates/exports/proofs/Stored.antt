-- Numbers stored one after the other, as the words before the sums.
-- Assumes nothing.
use Rattle.std.proofs.Common.{◌≡◌, ℕ, suc, ◌+◌, ◌%◌, ◌/◌, ◌^◌, cond, eqb, List, [], ◌∷◌, ◌++◌, length, ap, ap₂, ◌∙◌, arith, inl, inr, ◌⊎◌}
use Rattle.std.proofs.Math.Seq.{sets}
use lib.ListN.{set}
use Rattle.rules.specs.Kind.{Kind}
use Rattle.rules.specs.Words.{has_at, last_at, count_parts}
use Rattle.rules.proofs.Words.{headed}

-- Numbers stored, and further ones behind them, are all of them stored.
sets_append : (p q l : List ℕ) (i : ℕ) → sets (sets l i p) (i + length p) q ≡ sets l i (p ++ q)
sets_append [] q l i = ap (λ (j : ℕ). sets l j q) (omega arith)
sets_append (x ∷ p) q l i =
    ap (λ (j : ℕ). sets (sets (set l i x) (suc i) p) j q) (omega arith) ∙ sets_append p q (set l i x) (suc i)

-- A count has so many words.
parts_length : (K : Kind) (n : ℕ) → length (count_parts K n) ≡ K.count_words
parts_length K n = by_words K.count_words K.one_or_two
  where
    by_words : (w : ℕ) → (w ≡ 1) ⊎ (w ≡ 2) → length (cond (eqb w 1) (n ∷ []) (n % 256 ^ K.code_bytes ∷ n / 256 ^ K.code_bytes ∷ [])) ≡ w
    by_words w (inl e) = rw e
    by_words w (inr e) = rw e

module _ (K : Kind) (l : List ℕ) (t n : ℕ) where
  -- The threshold, the count and the two words of a last code, one after the other, are the words before the sums.
  pub stored_head : {h c : ℕ} (has code : ℕ) → h ≡ has_at K → c ≡ last_at K → set (set (sets (set l 0 t) 1 (count_parts K n)) h has) c code ≡ headed K l t n has code
  stored_head {h} {c} has code eh ec =
      let eh' : h ≡ 1 + length (count_parts K n) = omega (arith, eh, parts_length K n) in
      let ec' : c ≡ suc (1 + length (count_parts K n)) = omega (arith, ec, parts_length K n) in
      ap₂ (λ (i j : ℕ). set (set (sets (set l 0 t) 1 (count_parts K n)) i has) j code) eh' ec'
      ∙ sets_append (count_parts K n) (has ∷ code ∷ []) (set l 0 t) 1

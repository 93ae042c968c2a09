-- The numbers of a list of words, part by part: what is done to the words is done to their numbers. Over any width.
-- Assumes nothing.
use Rattle.std.proofs.Common.{ℕ, zero, suc, ◌<◌, ◌≡◌, refl, sym, ap, ap₂, ◌∙◌, List, [], ◌∷◌, ◌++◌, length, map, take, drop}
use Rattle.std.proofs.lemmas.List.{length-map, take-map, drop-map, map-set, get_or-map, map-append}
use borrow.Rule.Slice.PartMut.{put_mid}
use lib.ListN.{get_or, set, replicate}
use Rattle.modint.specs.Width.{Width}

module _ {W : Type 0} (w : Width W) where
  -- Words of one number are one word.
  pub word_of_number : {x y : W} → w.num x ≡ w.num y → x ≡ y
  word_of_number {x} {y} e = sym (w.of_num x) ∙ ap w.of e ∙ w.of_num y

  -- There are as many numbers as words.
  pub nums_length : (l : List W) → length (w.nums l) ≡ length l
  nums_length l = rw w.nums_are (length-map l w.num)

  -- No words have no numbers.
  pub nums_none : w.nums [] ≡ []
  nums_none = w.nums_are []

  -- The number of a word before the others is before their numbers.
  pub nums_first : (x : W) (l : List W) → w.nums (x ∷ l) ≡ w.num x ∷ w.nums l
  nums_first x l = w.nums_are (x ∷ l) ∙ ap (λ (m : List ℕ). w.num x ∷ m) (sym (w.nums_are l))

  -- The number at a place is that of the word there.
  pub nums_at : (l : List W) (k : ℕ) (d : W) (e : ℕ) → k < length l → get_or (w.nums l) k e ≡ w.num (get_or l k d)
  nums_at l k d e h = rw w.nums_are (get_or-map w.num l k d e h)

  -- The number at a place is that of the word that was read there.
  pub nums_item : (l : List W) (k : ℕ) {x : W} (e : ℕ) → x ≡ get_or l k x → k < length l → get_or (w.nums l) k e ≡ w.num x
  nums_item l k {x} e is h = nums_at l k x e h ∙ ap w.num (sym is)

  -- A word put at a place puts its number there.
  pub nums_set : (l : List W) (k : ℕ) (x : W) → w.nums (set l k x) ≡ set (w.nums l) k (w.num x)
  nums_set l k x = w.nums_are (set l k x) ∙ map-set w.num l k x ∙ sym (ap (λ (m : List ℕ). set m k (w.num x)) (w.nums_are l))

  -- The first words have the first numbers.
  pub nums_take : (n : ℕ) (l : List W) → w.nums (take n l) ≡ take n (w.nums l)
  nums_take n l = w.nums_are (take n l) ∙ sym (ap (take n) (w.nums_are l) ∙ take-map w.num n l)

  -- The words behind the first have the numbers behind them.
  pub nums_drop : (n : ℕ) (l : List W) → w.nums (drop n l) ≡ drop n (w.nums l)
  nums_drop n l = w.nums_are (drop n l) ∙ sym (ap (drop n) (w.nums_are l) ∙ drop-map w.num n l)

  -- Words behind words have the numbers of both.
  pub nums_append : (l m : List W) → w.nums (l ++ m) ≡ w.nums l ++ w.nums m
  nums_append l m =
      w.nums_are (l ++ m) ∙ map-append w.num l m
      ∙ sym (ap (λ (z : List ℕ). z ++ w.nums m) (w.nums_are l) ∙ ap (λ (z : List ℕ). map w.num l ++ z) (w.nums_are m))

  -- Words written over a part of others put their numbers over that part.
  pub nums_put_mid : (i k : ℕ) (l part : List W) → w.nums (put_mid i k l part) ≡ put_mid i k (w.nums l) (w.nums part)
  nums_put_mid i k l part =
      nums_append (take i l) (part ++ drop k (drop i l))
      ∙ ap₂ (λ (a b : List ℕ). a ++ b) (nums_take i l)
      (nums_append part (drop k (drop i l)) ∙ ap (λ (z : List ℕ). w.nums part ++ z) (nums_drop k (drop i l) ∙ ap (drop k) (nums_drop i l)))

  -- Equal words have equal numbers.
  pub nums_same : (n : ℕ) (x : W) → w.nums (replicate n x) ≡ replicate n (w.num x)
  nums_same zero x = nums_none
  nums_same (suc n) x = nums_first x (replicate n x) ∙ ap (λ (m : List ℕ). w.num x ∷ m) (nums_same n x)

  -- Lists of words with the same numbers are the same.
  pub words_of_numbers : (l m : List W) → w.nums l ≡ w.nums m → l ≡ m
  words_of_numbers l m e = sym (back l) ∙ ap (map w.of) e ∙ back m
    where
      back_each : (l : List W) → map w.of (map w.num l) ≡ l
      back_each [] = refl
      back_each (x ∷ l) = ap (λ (y : W). y ∷ map w.of (map w.num l)) (w.of_num x) ∙ ap (λ (m : List W). x ∷ m) (back_each l)

      back : (l : List W) → map w.of (w.nums l) ≡ l
      back l = ap (map w.of) (w.nums_are l) ∙ back_each l

-- What the tests of words, one after the other, tell of the rule.
-- Assumes nothing.
use Rattle.std.proofs.Common.{◌≡◌, ℕ, ◌+◌, ◌-◌, ◌%◌, ◌≤◌, ◌<◌, ◌⊎◌, inl, inr, Bool, true, false, cond, ◌&&◌, ◌++◌, Option, Some, None, List, length, get_or, take, drop, refl, sym, ap, ap₂, ◌∙◌, arith}
use Rattle.std.proofs.Math.Nat.{mod-eq_of_lt}
use Rattle.rules.specs.Kind.{Kind, counts}
use Rattle.rules.specs.Field.{difference}
use Rattle.rules.specs.Sketch.{last_fits}
use Rattle.rules.specs.Words.{head_words, count_in, last_in, last_shaped, last_said, words_fit}
use borrow.Rule.Slice.PartMut.{put_mid}
use Rattle.modint.specs.Width.{Width}
use Rattle.modint.proofs.Width.{nums_at, nums_take, nums_drop, nums_append}
use Rattle.exports.specs.Heads.{word_of, said_last, head_in}

-- Three tests, and the last two of them together.
pub together : (a b c : Bool) → a && b && c ≡ a && (b && c)
together true b c = refl
together false b c = refl

-- Few words stand before the sums.
pub few_before : (K : Kind) → head_words K ≤ 5
few_before K = by_words K.count_words K.one_or_two
  where
    by_words : (n : ℕ) → (n ≡ 1) ⊎ (n ≡ 2) → 3 + n ≤ 5
    by_words n (inl e) = omega (arith, e)
    by_words n (inr e) = omega (arith, e)

-- The wrapped difference of two counts.
pub less_counts : {a b n m : ℕ} → a ≡ n → b ≡ m → m < counts → (a + (counts - b)) % counts ≡ difference counts n m
less_counts {a} {b} {n} {m} ea eb l = rw (ea, eb, mod-eq_of_lt l)

module _ {W : Type 0} (w : Width W) where
  -- The number of a word that is there.
  pub number_at : (words : List W) {x : W} {k : ℕ} (j : ℕ) → x ≡ get_or words k x → k ≡ j → k < length words → w.num x ≡ get_or (w.nums words) j 0
  number_at words {x} {k} j is same there =
      ap w.num is ∙ sym (nums_at w words k x 0 there) ∙ ap (λ (i : ℕ). get_or (w.nums words) i 0) same

  -- The numbers of a part of words.
  pub part : (words : List W) {h k m n : ℕ} → h ≡ k → m ≡ n → w.nums (take m (drop h words)) ≡ take n (drop k (w.nums words))
  part words {h} {k} {m} {n} eh em = nums_take w m (drop h words) ∙ ap (take m) (nums_drop w h words) ∙ rw (eh, em)

  -- Words over a part of words have their numbers over the part.
  pub put_back : (words over : List W) {h k : ℕ} (m : ℕ) → h ≡ k → w.nums (put_mid h m words over) ≡ put_mid k m (w.nums words) (w.nums over)
  put_back words over {h} {k} m e =
      let rest = drop m (drop h words) in
      let behind : w.nums rest ≡ drop m (drop h (w.nums words)) = nums_drop w m (drop h words) ∙ ap (drop m) (nums_drop w h words) in
      nums_append w (take h words) (over ++ rest)
      ∙ ap₂ (λ (x y : List ℕ). x ++ y) (nums_take w h words) (nums_append w over rest ∙ ap (λ (y : List ℕ). w.nums over ++ y) behind)
      ∙ ap (λ (i : ℕ). put_mid i m (w.nums words) (w.nums over)) e

  -- What an option holds, or none.
  abbrev inner : Option (Option W) → Option W
  inner None = None
  inner (Some o) = o

  -- Two words that say a last code in no way.
  pub said_none : (has x : ℕ) → None ≡ said_last w has x → last_shaped has x && last_fits w.kind (last_in has x) ≡ false
  unfolding said_last
  said_none has x e = by_test (last_shaped has x && last_fits w.kind (last_in has x)) e
    where
      by_test : (b : Bool) → None ≡ cond b (Some (word_of w (last_in has x))) None → b ≡ false
      by_test true e = let y : None ≡ Some (word_of w (last_in has x)) = e in cc
      by_test false e = refl

  -- Two words that say one, or none.
  pub said_some : (has x : ℕ) {l : Option W} → Some l ≡ said_last w has x
      → (last_shaped has x && last_fits w.kind (last_in has x) ≡ true) × (l ≡ word_of w (last_in has x))
  unfolding said_last
  said_some has x {l} e = by_test (last_shaped has x && last_fits w.kind (last_in has x)) e
    where
      by_test : (b : Bool) → Some l ≡ cond b (Some (word_of w (last_in has x))) None → (b ≡ true) × (l ≡ word_of w (last_in has x))
      by_test true e = (refl, ap inner e)
      by_test false e = let y : Some l ≡ None = e in cc

  module _ (words : List W) where
    -- Words that do not fit have no parts.
    pub none : words_fit w.kind (w.nums words) ≡ false → None ≡ head_in w words
    unfolding head_in
    none e = rw e

    -- Words that fit have theirs.
    pub some : words_fit w.kind (w.nums words) ≡ true → {t n : ℕ} {l : Option W} → t ≡ get_or (w.nums words) 0 0 → n ≡ count_in w.kind (w.nums words)
        → l ≡ word_of w (last_said w.kind (w.nums words)) → Some (record { threshold = t; count = n; last = l }) ≡ head_in w words
    unfolding head_in
    some fit et en el = rw (fit, et, en, el)

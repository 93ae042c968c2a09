-- When good lines are refused by 4: exactly where the size of the signed count is above the threshold. And no answer has both missing and surplus lines.
-- Assumes nothing.
use Prim.Native.Nat.{ℕ, suc, ◌+◌, ◌<◌, ◌≤◌}
use mathlib.Core.Path.{◌≡◌, refl, sym, ap, ap₂, ◌∙◌}
use mathlib.Core.Bool.{Bool, true, false, cond}
use mathlib.Core.List.{List, [], ◌∷◌, ◌++◌, map, append-nil, foldl}
use mathlib.Core.Logic.{◌⊎◌, inl, inr}
use native.Mathlib.Nat.{mod-lt, mod-eq_of_lt, zero-add}
use native.Mathlib.Omega.{arith}
use lib.Dec.{eqb, ltb}
use lib.IntN.{ℤ, pos, negsuc, nat_abs, sub_ℕ}
use lib.ListN.{length}
use borrow.Author.Tests.{le-leb, lt-leb, ltb-true, ltb-false}
use Rattle.rules.specs.Kind.{Kind, counts, half_counts}
use Rattle.rules.specs.Signed.{signed_count}
use Rattle.rules.specs.Field.{difference as modular}
use Rattle.rules.specs.Sketch.{Sketch, fresh, insert, subtract}
use Rattle.rules.specs.Decode as decoding
use Rattle.rules.specs.Calls as calls
use Rattle.rules.specs.Calls.{Outcome, refused, given, refusal_of}
use Rattle.rules.specs.History.{sketch_of}
use Rattle.desk_rules.specs.Lines.{threshold_word, cut}
use Rattle.desk_rules.specs.Desk.{most_lines, sketch_of_codes, Report, decided, read_lines, outcome}
use Rattle.desk_rules.specs.Text.{refusal_word, count_word, found_word, missing_word, surplus_word, minus_sign, entry_word, line, signed_line, lines, printed}
use Rattle.desk_rules.specs.Text.{desk_answer}
use Rattle.rules.proofs.Negation.{signed_itself, signed_negative}
use Rattle.desk_rules.proofs.Missing.{lacking, lacking_sketch_lem}
use Rattle.desk_rules.proofs.Codes.{lacking_threshold}
use Rattle.desk_rules.proofs.Reading.{Plain, plain_tested, saying, cut_line, cut_lines, seen_of}

-- ---- refusal 4

module _ (K : Kind) where
  -- What is found with a signed count: of a negative one the surplus among the got codes, of any other what is missing of the log.
  abbrev pub found_for : ℤ → List ℕ → List ℕ → Sketch → List ℕ
  found_for (pos n) l g s = decoding.decode K s l
  found_for (negsuc n) l g s = decoding.surplus K s g

  module _ (T : ℕ) (l g : List ℕ) (s : Sketch) where
    -- What is told where nothing is refused.
    abbrev pub told : Report
    told = record { threshold = T; count = signed_count s.count; found = found_for (signed_count s.count) l g s }

    -- A size above the threshold is refused by 4.
    decided_over : s.count < counts → s.threshold < nat_abs (signed_count s.count) → decided K T l g s ≡ refused 4
    unfolding decided calls.decode calls.decode_surplus
    decided_over u = by_half (ltb s.count half_counts) refl
      where
        by_half : (small : Bool) → ltb s.count half_counts ≡ small → s.threshold < nat_abs (signed_count s.count) → decided K T l g s ≡ refused 4
        by_half true e =
            rw (signed_itself s.count (ltb-true s.count half_counts e)) (λ over. rw (lt-leb s.count s.threshold over))
        by_half false e =
            let is = signed_negative s.count (ltb-false s.count half_counts e) u in
            rw is (λ over. rw (is, lt-leb _ s.threshold over))

    -- Any other size is not refused.
    decided_within : s.count < counts → nat_abs (signed_count s.count) ≤ s.threshold → decided K T l g s ≡ given told
    unfolding decided calls.decode calls.decode_surplus
    decided_within u = by_half (ltb s.count half_counts) refl
      where
        by_half : (small : Bool) → ltb s.count half_counts ≡ small → nat_abs (signed_count s.count) ≤ s.threshold → decided K T l g s ≡ given told
        by_half true e =
            rw (signed_itself s.count (ltb-true s.count half_counts e))
            (λ within. rw (le-leb s.count s.threshold within, le-leb (length l) (length l) (omega arith)))
        by_half false e =
            let is = signed_negative s.count (ltb-false s.count half_counts e) u in
            rw is (λ within. rw (is, le-leb _ s.threshold within, le-leb (length g) (length g) (omega arith)))

-- The lines of a threshold, of log codes and of got codes, with got lines or without.
module _ (K : Kind) (T : ℕ) (l g : List ℕ) where
  -- The sketch of the log lines less that of the got lines.
  abbrev pub lacking_sketch : Sketch
  lacking_sketch = sketch_of K (lacking T l g)

  -- Its signed count.
  abbrev pub difference : ℤ
  difference = signed_count lacking_sketch.count

  -- It decides.
  seen_decided : outcome K (seen_of K T l g) ≡ decided K T l g lacking_sketch
  unfolding outcome
  seen_decided = by_list g ∙ ap (decided K T l g) (sym (lacking_sketch_lem K T l g))
    where
      by_list : (g : List ℕ) → outcome K (seen_of K T l g) ≡ decided K T l g (subtract K (sketch_of_codes K T l) (sketch_of_codes K T g))
      by_list [] = refl
      by_list (c ∷ g) = refl

  -- Its count is one of those there are.
  count_below : lacking_sketch.count < counts
  unfolding subtract
  count_below = mod-lt _ (omega arith)

  -- Good lines are refused by 4 where the size of the signed count is above the threshold.
  pub over_limit : T < nat_abs difference → outcome K (seen_of K T l g) ≡ refused 4
  over_limit over = seen_decided ∙ decided_over K T l g lacking_sketch count_below (omega (arith, lacking_threshold K T l g))

  -- Otherwise the threshold, the signed count and what is found are told.
  pub within_limit : nat_abs difference ≤ T → outcome K (seen_of K T l g) ≡ given (told K T l g lacking_sketch)
  within_limit within = seen_decided ∙ decided_within K T l g lacking_sketch count_below (omega (arith, lacking_threshold K T l g))

  -- So they are refused by 4 nowhere else, and by no other number.
  pub refused_by_4 : (n : ℕ) → outcome K (seen_of K T l g) ≡ refused n → (n ≡ 4) × (T < nat_abs difference)
  refused_by_4 n e = by_size (ltb T (nat_abs difference)) refl
    where
      by_size : (over : Bool) → ltb T (nat_abs difference) ≡ over → (n ≡ 4) × (T < nat_abs difference)
      by_size true t =
          let over = ltb-true T (nat_abs difference) t in
          (ap refusal_of (sym e ∙ over_limit over), over)
      by_size false t =
          let clash : refused n ≡ given (told K T l g lacking_sketch) = sym e ∙ within_limit (ltb-false T (nat_abs difference) t) in
          let z : ◌≡◌ {A = ℕ} 0 1 = cc in
          absurd (omega arith)

-- ---- the signed count in numbers of lines

module _ (K : Kind) where
  -- Insertions raise the count by as many as they are, below the number of counts.
  codes_count : (s : Sketch) (l : List ℕ) → s.count + length l < counts → (foldl (insert K) s l).count ≡ s.count + length l
  unfolding insert
  codes_count s [] u = omega arith
  codes_count s (c ∷ l) u =
      let one : (insert K s c).count ≡ s.count + 1 = mod-eq_of_lt (omega arith) in
      codes_count (insert K s c) l (omega (arith, one)) ∙ omega (arith, one)

  -- The sketch of codes counts them.
  codes_counted : (T : ℕ) (l : List ℕ) → length l ≤ most_lines → (sketch_of_codes K T l).count ≡ length l
  unfolding fresh
  codes_counted T l few = codes_count (fresh T) l (omega arith) ∙ zero-add (length l)

  -- The signed count is the number of log lines less that of got lines.
  pub difference_of_lines : (T : ℕ) (l g : List ℕ) → length l ≤ most_lines → length g ≤ most_lines → difference K T l g ≡ sub_ℕ (length l) (length g)
  unfolding subtract
  difference_of_lines T l g few few_gots =
      ap (λ (s : Sketch). signed_count s.count) (lacking_sketch_lem K T l g)
      ∙ ap₂ (λ (a b : ℕ). signed_count (modular counts a b)) (codes_counted T l few) (codes_counted T g few_gots)
      ∙ by_order (ltb (length l) (length g)) refl
    where
      by_order : (more : Bool) → ltb (length l) (length g) ≡ more → signed_count (modular counts (length l) (length g)) ≡ sub_ℕ (length l) (length g)
      by_order true e =
          let less = ltb-true (length l) (length g) e in
          rw e (signed_negative (modular counts (length l) (length g)) (omega arith) (omega arith) ∙ ap negsuc (omega arith))
      by_order false e =
          let least = ltb-false (length l) (length g) e in
          rw e (signed_itself (modular counts (length l) (length g)) (omega arith) ∙ ap pos (omega arith))

  -- So good lines are refused by 4 exactly where the two numbers of lines differ by more than the threshold, either way.
  pub four_by_lines : (T : ℕ) (l g : List ℕ) → length l ≤ most_lines → length g ≤ most_lines
      → (T < nat_abs (sub_ℕ (length l) (length g)) → outcome K (seen_of K T l g) ≡ refused 4)
      × (outcome K (seen_of K T l g) ≡ refused 4 → T < nat_abs (sub_ℕ (length l) (length g)))
  four_by_lines T l g few few_gots =
      let is = ap nat_abs (difference_of_lines T l g few few_gots) in
      (λ over. over_limit K T l g (omega (arith, is)), λ e. omega (arith, is, (refused_by_4 K T l g 4 e).1))

-- ---- one kind of lines

-- Whether a line begins with a word.
abbrev pub begins : List ℕ → List ℕ → Bool
begins [] bs = true
begins (w ∷ ws) [] = false
begins (w ∷ ws) (b ∷ bs) = cond (eqb b w) (begins ws bs) false

-- How many of some lines begin with a word.
abbrev pub beginning : List ℕ → List (List ℕ) → ℕ
beginning word [] = 0
beginning word (bs ∷ ls) = cond (begins word bs) (suc (beginning word ls)) (beginning word ls)

-- How many lines of a text begin with a word.
abbrev pub lines_with : List ℕ → List ℕ → ℕ
lines_with word text = beginning word (cut text).whole

-- A word that no line of another word begins with.
abbrev Apart : List ℕ → List ℕ → Type 0
Apart word other = (n : ℕ) → begins word (saying other n) ≡ false

module _ (word other : List ℕ) (plain : Plain other) (apart : Apart word other) where
  -- A line of the other word in front adds none.
  none_before : (n : ℕ) (rest : List ℕ) → lines_with word (line other n ++ rest) ≡ lines_with word rest
  none_before n rest = rw (cut_line other plain n rest, apart n)

  -- Lines of the other word alone have none.
  none_among : (xs : List ℕ) → lines_with word (lines other xs) ≡ 0
  unfolding cut
  none_among xs = rw (← append-nil (lines other xs), cut_lines other plain xs [], append-nil) (by_list xs)
    where
      by_list : (xs : List ℕ) → beginning word (map (saying other) xs) ≡ 0
      by_list [] = refl
      by_list (x ∷ xs) = rw (apart x) (by_list xs)

module _ (word : List ℕ) where
  -- A word of lines that are no line of the head and no line of an outcome's other entries.
  record Foreign (other : List ℕ) : Type 0 where
    refusal : Apart word refusal_word
    threshold : Apart word threshold_word
    count : Apart word count_word
    negative : Apart word (count_word ++ (minus_sign ∷ []))
    found : Apart word found_word
    entries : Apart word other

  -- The count line, signed or not, adds none.
  none_counted : {other : List ℕ} → Foreign other → (z : ℤ) (rest : List ℕ) → lines_with word (signed_line count_word z ++ rest) ≡ lines_with word rest
  unfolding signed_line
  none_counted f (pos n) rest = none_before word count_word (plain_tested count_word refl) f.count n rest
  none_counted f (negsuc n) rest =
      none_before word (count_word ++ (minus_sign ∷ [])) (plain_tested (count_word ++ (minus_sign ∷ [])) refl) f.negative (suc n) rest

  -- A refusal has none.
  none_refused : {other : List ℕ} → Foreign other → (n : ℕ) → lines_with word (printed (refused n)) ≡ 0
  unfolding printed cut
  none_refused f n = rw (← append-nil (line refusal_word n)) (none_before word refusal_word (plain_tested refusal_word refl) f.refusal n [])

  -- Nor has an answer whose entries have another word.
  none_given : (r : Report) → Plain (entry_word r.count) → Foreign (entry_word r.count) → lines_with word (printed (given r)) ≡ 0
  unfolding printed
  none_given r plain f =
      none_before word refusal_word (plain_tested refusal_word refl) f.refusal 0 _
      ∙ none_before word threshold_word (plain_tested threshold_word refl) f.threshold r.threshold _
      ∙ none_counted f r.count _
      ∙ none_before word found_word (plain_tested found_word refl) f.found (length r.found) _
      ∙ none_among word (entry_word r.count) plain f.entries r.found

-- No line of an answer is a surplus line but those of its entries.
surplus_foreign : Foreign surplus_word missing_word
surplus_foreign = record { refusal = λ n. refl; threshold = λ n. refl; count = λ n. refl; negative = λ n. refl; found = λ n. refl; entries = λ n. refl }

-- Nor is one a missing line.
missing_foreign : Foreign missing_word surplus_word
missing_foreign = record { refusal = λ n. refl; threshold = λ n. refl; count = λ n. refl; negative = λ n. refl; found = λ n. refl; entries = λ n. refl }

-- An answer has no missing lines or no surplus lines.
printed_one_kind : (o : Outcome Report) → (lines_with missing_word (printed o) ≡ 0) ⊎ (lines_with surplus_word (printed o) ≡ 0)
printed_one_kind (refused n) = inl (none_refused missing_word missing_foreign n)
printed_one_kind (given r) = by_sign r.count refl
  where
    by_sign : (z : ℤ) → r.count ≡ z → (lines_with missing_word (printed (given r)) ≡ 0) ⊎ (lines_with surplus_word (printed (given r)) ≡ 0)
    by_sign (pos n) e = inr (none_given surplus_word r (rw e (plain_tested missing_word refl)) (rw e surplus_foreign))
    by_sign (negsuc n) e = inl (none_given missing_word r (rw e (plain_tested surplus_word refl)) (rw e missing_foreign))

-- Whatever the input, the program's output has no missing lines or no surplus lines.
pub one_kind : (K : Kind) (input : List ℕ) → (lines_with missing_word (desk_answer K input) ≡ 0) ⊎ (lines_with surplus_word (desk_answer K input) ≡ 0)
unfolding desk_answer
one_kind K input = printed_one_kind (outcome K (read_lines K (cut input)))

-- Words and well-formed sketches undo each other, and a part of the words that is changed gives the words of the changed sketch.
-- Assumes nothing.
use Prim.Native.Nat.{ℕ, ◌+◌, ◌*◌, ◌/◌, ◌%◌, ◌^◌, ◌≤◌, ◌<◌}
use mathlib.Core.Path.{◌≡◌, refl, sym, ◌∙◌, ap}
use mathlib.Core.Bool.{Bool, true, false, cond, ◌&&◌, and-true, and-false, true≢false, false≢true}
use mathlib.Core.List.{List, [], ◌∷◌, ◌++◌, append_assoc}
use mathlib.Core.Logic.{◌⊎◌, inl, inr}
use native.Mathlib.Nat.{zero-add, add_comm, div-add-mod, mul-suc, mul-le-mul_left}
use native.Mathlib.Omega.{arith}
use lib.Dec.{leb, ltb, eqb}
use lib.ListN.{length, get_or, take, drop, length-append, length-drop, length-take}
use lib.Seq.{take_at, drop_at, take_all, length-take-le, drop-drop, sets, sets-eq, length-sets}
use borrow.Author.Numbers.{squared}
use borrow.Author.Tests.{eqb-true, le-leb, lt-leb, leb-true, lt-ltb, ltb-true}
use borrow.Rule.Slice.PartMut.{put_mid}
use Rattle.numbers.specs.Table.{every}
use Rattle.numbers.proofs.Power.{pow_one}
use Rattle.rules.specs.Kind.{Kind, counts}
use Rattle.rules.specs.Sketch.{Sketch, Last, nothing, code, has_code, code_or0, last_without, in_range, last_fits, place_fits, well_formed, WellFormed}
use Rattle.rules.specs.Sums.{all_below}
use Rattle.rules.specs.Calls.{given, written}
use Rattle.rules.specs.Words.{head_words, has_at, last_at, count_in, last_in, last_said, last_shaped, said_by, words_fit, head, words_of}
use Rattle.rules.proofs.Each.{and_first, and_second}
use Rattle.rules.proofs.Most.{every_used}
use Rattle.rules.proofs.WellFormed.{well_formed_sums, well_formed_parts}

-- ---- words that fit

-- A last code that two words say in the one way has these words.
shaped_back : (has x : ℕ) → last_shaped has x ≡ true → (has_code (last_in has x) ≡ has) × (code_or0 (last_in has x) ≡ x)
shaped_back has x t = by_test (eqb has 0) (λ e. eqb-true has 0 e) t
  where
    by_test : (none : Bool) → (none ≡ true → has ≡ 0) → cond none (eqb x 0) (eqb has 1) ≡ true
        → (has_code (cond none nothing (code x)) ≡ has) × (code_or0 (cond none nothing (code x)) ≡ x)
    by_test true z t = (sym (z refl), sym (eqb-true x 0 t))
    by_test false z t = (sym (eqb-true has 1 t), refl)

-- What words that fit have: as many as the threshold says, two words for the last code, and a well-formed sketch.
pub record Fit (K : Kind) (ws : List ℕ) : Type 0 where
  pub enough : head_words K + (said_by K ws).threshold ≤ length ws
  pub has : has_code (said_by K ws).last ≡ get_or ws (has_at K) 0
  pub codes : code_or0 (said_by K ws).last ≡ get_or ws (last_at K) 0
  pub well : WellFormed K (said_by K ws)

-- Words that pass the test have these parts.
pub fit_parts : (K : Kind) (ws : List ℕ) → words_fit K ws ≡ true → Fit K ws
unfolding words_fit said_by
fit_parts K ws fit =
    let t = get_or ws 0 0 in
    let sums = take t (drop (head_words K) ws) in
    let last = last_said K ws in
    let long = leb (head_words K + t) (length ws) in
    let small = ltb (count_in K ws) counts in
    let shaped = last_shaped (get_or ws (has_at K) 0) (get_or ws (last_at K) 0) in
    let before = and_first (long && small && shaped) _ fit in
    let enough = leb-true (head_words K + t) (length ws) (and_first long _ (and_first (long && small) _ before)) in
    let back = shaped_back (get_or ws (has_at K) 0) (get_or ws (last_at K) 0) (and_second (long && small) _ before) in
    let many : length sums ≡ t = length-take-le t (drop (head_words K) ws) (omega (arith, length-drop (head_words K) ws)) in
    let all : take t sums ≡ sums = take_all t sums (omega arith) in
    let below = ltb-true (count_in K ws) counts (and_second long _ (and_first (long && small) _ before)) in
    record {
      enough = enough;
      has = back.0;
      codes = back.1;
      well = rw all at (well_formed_parts K t sums last (and_second (long && small && shaped) _ fit) (omega arith) (count_in K ws) below);
    }

-- ---- the words before the sums

-- What the words before the sums say.
pub record Says (K : Kind) (ws : List ℕ) (count has last : ℕ) : Type 0 where
  pub counted : count_in K ws ≡ count
  pub marked : get_or ws (has_at K) 0 ≡ has
  pub coded : get_or ws (last_at K) 0 ≡ last

-- Those words, with w of them for the count, to the base b.
abbrev head_with : ℕ → ℕ → ℕ → ℕ → ℕ → ℕ → List ℕ
head_with b w t n has last = t ∷ cond (eqb w 1) (n ∷ []) (n % b ∷ n / b ∷ []) ++ has ∷ last ∷ []

module _ (K : Kind) (t n has last : ℕ) where
  -- They are so many.
  pub head_length : length (head K t n has last) ≡ head_words K
  head_length = by_words K.count_words K.one_or_two
    where
      by_words : (w : ℕ) → (w ≡ 1) ⊎ (w ≡ 2) → length (head_with (256 ^ K.code_bytes) w t n has last) ≡ 3 + w
      by_words w (inl e) = rw e
      by_words w (inr e) = rw e

  -- They say the count and the last code, whatever stands behind them.
  pub head_says : (rest : List ℕ) → Says K (head K t n has last ++ rest) n has last
  head_says rest = record {
    counted = counts_back (256 ^ K.code_bytes) K.count_words K.one_or_two;
    marked = marks (256 ^ K.code_bytes) K.count_words K.one_or_two;
    coded = codes (256 ^ K.code_bytes) K.count_words K.one_or_two;
  }
    where
      counts_back : (b w : ℕ) → (w ≡ 1) ⊎ (w ≡ 2) → let ws = head_with b w t n has last ++ rest in
          cond (eqb w 1) (get_or ws 1 0) (get_or ws 1 0 + b * get_or ws 2 0) ≡ n
      counts_back b w (inl e) = rw e
      counts_back b w (inr e) = rw e (add_comm (n % b) (b * (n / b)) ∙ div-add-mod n b)

      marks : (b w : ℕ) → (w ≡ 1) ⊎ (w ≡ 2) → get_or (head_with b w t n has last ++ rest) (1 + w) 0 ≡ has
      marks b w (inl e) = rw e
      marks b w (inr e) = rw e

      codes : (b w : ℕ) → (w ≡ 1) ⊎ (w ≡ 2) → get_or (head_with b w t n has last ++ rest) (2 + w) 0 ≡ last
      codes b w (inl e) = rw e
      codes b w (inr e) = rw e

-- Where every word has the bits of a code, and as many as a count takes have those of a count, the words say a count.
pub count_below : (K : Kind) (ws : List ℕ) → ((k : ℕ) → get_or ws k 0 < 256 ^ K.code_bytes) → (256 ^ K.code_bytes) ^ K.count_words ≤ counts
    → count_in K ws < counts
count_below K ws small room = by_words (256 ^ K.code_bytes) K.count_words K.one_or_two (small 1) (small 2) room
  where
    by_words : (b w : ℕ) → (w ≡ 1) ⊎ (w ≡ 2) → get_or ws 1 0 < b → get_or ws 2 0 < b → b ^ w ≤ counts
        → cond (eqb w 1) (get_or ws 1 0) (get_or ws 1 0 + b * get_or ws 2 0) < counts
    by_words b w (inl e) low high room = rw e (omega (arith, pow_one b, rw e at room))
    by_words b w (inr e) low high room =
        let most = mul-le-mul_left b high in
        rw e (omega (arith, most, mul-suc b (get_or ws 2 0), squared b, rw e at room))

-- ---- the words of a well-formed sketch, whatever stands behind them

module _ (K : Kind) (s : Sketch) (w : WellFormed K s) (rest : List ℕ) where
  last_back : (l : Last) → last_in (has_code l) (code_or0 l) ≡ l
  last_back nothing = refl
  last_back (code x) = refl

  last_shaped_lem : (l : Last) → last_shaped (has_code l) (code_or0 l) ≡ true
  last_shaped_lem nothing = refl
  last_shaped_lem (code x) = refl

  -- The words before the sums, and those behind them.
  abbrev front : List ℕ
  front = head K s.threshold s.count (has_code s.last) (code_or0 s.last)

  abbrev behind : List ℕ
  behind = s.sums ++ rest

  says : Says K (front ++ behind) s.count (has_code s.last) (code_or0 s.last)
  says = head_says K s.threshold s.count (has_code s.last) (code_or0 s.last) behind

  parted : words_of K s ++ rest ≡ front ++ behind
  unfolding words_of
  parted = append_assoc front s.sums rest

  front_length : length front ≡ head_words K
  front_length = head_length K s.threshold s.count (has_code s.last) (code_or0 s.last)

  sums_back : take s.threshold (drop (head_words K) (front ++ behind)) ≡ s.sums
  sums_back = rw (drop_at front behind (head_words K) front_length) (take_at s.sums rest s.threshold w.as_many)

  -- They say the sketch.
  pub sketch_back : said_by K (words_of K s ++ rest) ≡ s
  unfolding said_by
  sketch_back = rw (parted, sums_back, says.counted, says.marked, says.coded, last_back s.last)

  -- They fit.
  pub words_fit_lem : words_fit K (words_of K s ++ rest) ≡ true
  unfolding words_fit
  words_fit_lem =
      rw (
        parted,
        le-leb (head_words K + s.threshold) (length (front ++ behind))
            (omega (arith, length-append front behind, length-append s.sums rest, front_length, w.as_many)),
        says.counted,
        says.marked,
        says.coded,
        lt-ltb s.count counts w.count_below,
        last_shaped_lem s.last,
        sums_back,
        last_back s.last,
      )
      (well_formed_sums K s w)

-- ---- words stored

-- A sketch has so many words.
pub words_length : (K : Kind) (s : Sketch) → length (words_of K s) ≡ head_words K + length s.sums
unfolding words_of
words_length K s =
    let before = head K s.threshold s.count (has_code s.last) (code_or0 s.last) in
    length-append before s.sums
    ∙ ap (λ (n : ℕ). n + length s.sums) (head_length K s.threshold s.count (has_code s.last) (code_or0 s.last))

module _ (K : Kind) where
  -- Words with others before the sums.
  abbrev pub headed : List ℕ → ℕ → ℕ → ℕ → ℕ → List ℕ
  headed ws t n has last = sets ws 0 (head K t n has last)

  -- They are as many as before.
  pub headed_length : (ws : List ℕ) (t n has last : ℕ) → length (headed ws t n has last) ≡ length ws
  headed_length ws t n has last = length-sets ws 0 (head K t n has last)

  -- They are those words, and what stood behind the ones before.
  pub headed_is : (ws : List ℕ) (t n has last : ℕ) → head_words K ≤ length ws → headed ws t n has last ≡ head K t n has last ++ drop (head_words K) ws
  headed_is ws t n has last l =
      let long = head_length K t n has last in
      sets-eq (head K t n has last) ws 0 (omega (arith, long))
      ∙ ap (λ (m : ℕ). head K t n has last ++ drop m ws) (zero-add (length (head K t n has last)) ∙ long)

  -- What stands behind the words before the sums is as it was.
  pub headed_rest : (ws : List ℕ) (t n has last : ℕ) → head_words K ≤ length ws → drop (head_words K) (headed ws t n has last) ≡ drop (head_words K) ws
  headed_rest ws t n has last l =
      rw (headed_is ws t n has last l) (drop_at (head K t n has last) (drop (head_words K) ws) (head_words K) (head_length K t n has last))

  -- A sketch's words before the sums, the sums, and what stood behind as many words are its words over the front.
  pub words_written : (ws : List ℕ) (s : Sketch) → head K s.threshold s.count (has_code s.last) (code_or0 s.last)
      ++ (s.sums ++ drop (length s.sums) (drop (head_words K) ws)) ≡ written (given (words_of K s)) ws
  unfolding words_of
  words_written ws s =
      let before = head K s.threshold s.count (has_code s.last) (code_or0 s.last) in
      ap (λ (r : List ℕ). before ++ (s.sums ++ r)) (drop-drop (length s.sums) (head_words K) ws)
      ∙ sym (append_assoc before s.sums (drop (head_words K + length s.sums) ws))
      ∙ sym (ap (λ (n : ℕ). words_of K s ++ drop n ws) (words_length K s))

  -- Words stored before the sums, and sums over the part behind them, are the words of a sketch over the front.
  pub words_stored : (ws : List ℕ) (s : Sketch) {m : ℕ} {sums : List ℕ} → sums ≡ s.sums → m ≡ length s.sums → head_words K + length s.sums ≤ length ws
      → put_mid (head_words K) m (headed ws s.threshold s.count (has_code s.last) (code_or0 s.last)) sums ≡ written (given (words_of K s)) ws
  unfolding words_of
  words_stored ws s {m} {sums} e em l =
      let before = head K s.threshold s.count (has_code s.last) (code_or0 s.last) in
      let long : length before ≡ head_words K = head_length K s.threshold s.count (has_code s.last) (code_or0 s.last) in
      let rest = drop (head_words K) ws in
      let stored : put_mid (head_words K) m (headed ws s.threshold s.count (has_code s.last) (code_or0 s.last)) sums
      ≡ before ++ (s.sums ++ drop (length s.sums) rest) =
      rw (
        headed_is ws s.threshold s.count (has_code s.last) (code_or0 s.last) (omega arith),
        take_at before rest (head_words K) long,
        drop_at before rest (head_words K) long,
        e,
        em,
      ) in
      stored ∙ words_written ws s

-- The two words of a last code without a code.
pub without_words : (l : Last) (c : ℕ) → let gone = eqb (code_or0 l) c in
    (has_code (last_without l c) ≡ cond gone 0 (has_code l)) × (code_or0 (last_without l c) ≡ cond gone 0 (code_or0 l))
without_words nothing c = by_test (eqb 0 c)
  where
    by_test : (gone : Bool) → (has_code nothing ≡ cond gone 0 0) × (code_or0 nothing ≡ cond gone 0 0)
    by_test true = (refl, refl)
    by_test false = (refl, refl)
without_words (code x) c = by_test (eqb x c)
  where
    by_test : (gone : Bool) → (has_code (cond gone nothing (code x)) ≡ cond gone 0 1) × (code_or0 (cond gone nothing (code x)) ≡ cond gone 0 x)
    by_test true = (refl, refl)
    by_test false = (refl, refl)

-- ---- the test of words, one test after the other

-- Whether what stands before the sums, but for the count, is a sketch's.
abbrev pub head_fits : Kind → List ℕ → Bool
head_fits K ws = in_range K (get_or ws 0 0) && last_shaped (get_or ws (has_at K) 0) (get_or ws (last_at K) 0) && last_fits K (last_said K ws)

-- The tests in the order of the rule and in this one.
misfit_anywhere : (long small shaped range sums last : Bool) → range && shaped && last ≡ false → long && small && shaped && (range && sums && last) ≡ false
misfit_anywhere long small false range sums last e = rw (and-false (long && small))
misfit_anywhere long small true false sums last e = rw (and-false (long && small && true))
misfit_anywhere long small true true sums false e = rw (and-false sums, and-false (long && small && true))
misfit_anywhere long small true true sums true e = absurd (true≢false e)

only_sums : (range shaped last sums : Bool) → range && shaped && last ≡ true → shaped && (range && sums && last) ≡ sums
only_sums true true true sums e = and-true sums
only_sums true true false sums e = absurd (false≢true e)
only_sums true false last sums e = absurd (false≢true e)
only_sums false shaped last sums e = absurd (false≢true e)

module _ (K : Kind) (ws : List ℕ) where
  abbrev range : Bool
  range = in_range K (get_or ws 0 0)

  abbrev shaped : Bool
  shaped = last_shaped (get_or ws (has_at K) 0) (get_or ws (last_at K) 0)

  abbrev last : Bool
  last = last_fits K (last_said K ws)

  abbrev used : List ℕ
  used = take (get_or ws 0 0) (drop (head_words K) ws)

  -- Fewer words than the threshold says.
  pub words_short : length ws < head_words K + get_or ws 0 0 → words_fit K ws ≡ false
  unfolding words_fit
  words_short l = rw (lt-leb (head_words K + get_or ws 0 0) (length ws) l)

  -- Words before the sums that are no sketch's.
  pub words_misfit : head_fits K ws ≡ false → words_fit K ws ≡ false
  unfolding words_fit well_formed
  words_misfit e =
      misfit_anywhere (leb (head_words K + get_or ws 0 0) (length ws)) (ltb (count_in K ws) counts) shaped range
      (every (place_fits K (get_or ws 0 0)) 0 used) last e

  -- Otherwise the sums decide.
  pub words_by_sums : head_fits K ws ≡ true → head_words K + get_or ws 0 0 ≤ length ws → count_in K ws < counts
      → words_fit K ws ≡ all_below K used
  unfolding words_fit well_formed
  words_by_sums e enough small =
      rw (le-leb (head_words K + get_or ws 0 0) (length ws) enough, lt-ltb (count_in K ws) counts small)
      (only_sums range shaped last _ e ∙ every_used K (get_or ws 0 0) 0 used (omega (arith, length-take (get_or ws 0 0) (drop (head_words K) ws))))

-- The exported calls on words but for packets, test by test, and how what they store is what they give.
-- Assumes nothing.
use Prim.Native.Nat.{ℕ, ◌+◌, ◌%◌, ◌≤◌, ◌<◌, min}
use mathlib.Core.Path.{◌≡◌, refl, sym, ◌∙◌, ap}
use mathlib.Core.Bool.{true, false, cond, ◌&&◌}
use mathlib.Core.List.{List, ◌++◌, append-nil}
use native.Mathlib.Omega.{arith}
use lib.Dec.{eqb}
use lib.ListN.{length, take, drop, replicate, length-replicate, length-drop, drop_of_length-le}
use lib.Seq.{length-take-le, take_all}
use borrow.Author.Tests.{eq-eqb, ne_eqb}
use borrow.Rule.Slice.PartMut.{put_mid}
use Rattle.rules.specs.Kind.{Kind, counts}
use Rattle.rules.specs.Field.{residue, difference}
use Rattle.rules.specs.Sketch as sketch
use Rattle.rules.specs.Sketch.{Sketch, nothing, code, has_code, code_or0, in_range}
use Rattle.rules.specs.Sums.{moved_by_powers, differences, common, copied}
use Rattle.rules.specs.Decode.{coefficients}
use Rattle.rules.specs.Calls as calls
use Rattle.rules.specs.Calls.{Outcome, refused, given, unless, refusal_of, written}
use Rattle.rules.specs.Words.{head_words, words_fit, said_by, words_of, new_in, insert_in, remove_in, sub_assign_in, sub_in}
use Rattle.rules.proofs.Newton.{coefficients_over_part}
use Rattle.rules.proofs.Bytes.{fitting_short, fitting_given}
use Rattle.rules.proofs.Changing.{differences_parts}
use Rattle.rules.proofs.Mapping.{copied_whole}
use Rattle.rules.proofs.Each.{each_length}
use Rattle.rules.proofs.Words.{headed, headed_length, headed_rest, fit_parts, words_length, words_stored, without_words}

-- ---- words stored

-- Four words stored at the front leave the number of words, and what stands behind them, as they were.
pub as_many : (K : Kind) (ws : List ℕ) (t n has last : ℕ) {front : List ℕ} → front ≡ headed K ws t n has last → length front ≡ length ws
as_many K ws t n has last e = ap length e ∙ headed_length K ws t n has last

behind : (K : Kind) (ws : List ℕ) (t n has last : ℕ) {front : List ℕ} → front ≡ headed K ws t n has last → head_words K ≤ length ws
    → drop (head_words K) front ≡ drop (head_words K) ws
behind K ws t n has last e l = ap (drop (head_words K)) e ∙ headed_rest K ws t n has last l

-- ---- what a call hands back

-- A call that is refused hands back the number, and what was lent as it was.
pub refuses : (ws : List ℕ) {o : Outcome (List ℕ)} {n : ℕ} → o ≡ refused n → (n ≡ refusal_of o) × (ws ≡ written o ws)
refuses ws {o} {n} e = (ap refusal_of (sym e), ap (λ (o : Outcome (List ℕ)). written o ws) (sym e))

-- A call that is not refused hands back 0, and what it gives over the front of what was lent.
pub gives : (ws : List ℕ) {o : Outcome (List ℕ)} {l out : List ℕ} → o ≡ given l → out ≡ written (given l) ws → (0 ≡ refusal_of o) × (out ≡ written o ws)
gives ws {o} {l} e w = (ap refusal_of (sym e), w ∙ ap (λ (o : Outcome (List ℕ)). written o ws) (sym e))

-- Words stored at the front and sums behind them are what a call hands back that gives a sketch in words.
pub stores : (K : Kind) (ws : List ℕ) (s : Sketch) {o : Outcome (List ℕ)} {m t n has last : ℕ} {front sums : List ℕ} → o ≡ given (words_of K s)
    → front ≡ headed K ws t n has last
    → t ≡ s.threshold → n ≡ s.count → has ≡ has_code s.last → last ≡ code_or0 s.last → sums ≡ s.sums → m ≡ length s.sums
    → head_words K + length s.sums ≤ length ws → (0 ≡ refusal_of o) × (put_mid (head_words K) m front sums ≡ written o ws)
stores K ws s o f t n h l e em r = gives ws o (rw (f, t, n, h, l) (words_stored K ws s e em r))

-- ---- the calls, test by test

module _ (K : Kind) where
  -- A threshold that is out of range is refused by 1.
  pub new_out_of_range : (t places : ℕ) → in_range K t ≡ false → new_in K t places ≡ refused 1
  unfolding new_in calls.make
  new_out_of_range t places e = rw e

  -- A threshold in range is refused by 5 where the sketch has more words than are lent.
  pub new_short : (t places : ℕ) → in_range K t ≡ true → places < head_words K + t → new_in K t places ≡ refused 5
  unfolding new_in calls.make sketch.fresh
  new_short t places e few =
      rw e (fitting_short (words_of K (sketch.fresh t)) (words_length K (sketch.fresh t)) (omega (arith, few, length-replicate {A = ℕ} t 0)))

  -- Otherwise a fresh sketch is given.
  pub new_given : (t places : ℕ) → in_range K t ≡ true → head_words K + t ≤ places → new_in K t places ≡ given (words_of K (sketch.fresh t))
  unfolding new_in calls.make sketch.fresh
  new_given t places e room =
      rw e (fitting_given (words_of K (sketch.fresh t)) (words_length K (sketch.fresh t)) (omega (arith, room, length-replicate {A = ℕ} t 0)))

  -- A fresh sketch: the threshold and zeros.
  pub new_stores : (to : List ℕ) (t : ℕ) {m n has last : ℕ} {front sums : List ℕ} → in_range K t ≡ true → m ≡ t → head_words K + t ≤ length to → n ≡ 0 → has ≡ 0
      → last ≡ 0
      → front ≡ headed K to t n has last → sums ≡ replicate (length (take m (drop (head_words K) front))) 0
      → (0 ≡ refusal_of (new_in K t (length to))) × (put_mid (head_words K) m front sums ≡ written (new_in K t (length to)) to)
  unfolding new_in calls.make sketch.fresh
  new_stores to t {m} {n} {has} {last} {front} e em room en eh el ef es =
      let after = sketch.fresh t in
      let zeros = length-replicate {A = ℕ} t 0 in
      let fits : head_words K + length after.sums ≤ length to = omega (arith, room, zeros) in
      let comes : new_in K t (length to) ≡ given (words_of K after) = new_given t (length to) e room in
      let long : length (take m (drop (head_words K) front)) ≡ m = length-take-le m (drop (head_words K) front)
      (omega (arith, em, room, length-drop (head_words K) front, as_many K to t n has last ef)) in
      stores K to after comes ef refl en eh el (es ∙ rw (long, em)) (em ∙ sym zeros) fits

  module _ (ws : List ℕ) where
    -- Insertion into words that do not fit is refused by 12.
    pub insert_misfit : words_fit K ws ≡ false → (c : ℕ) → insert_in K ws c ≡ refused 12
    unfolding insert_in calls.insert
    insert_misfit e c = rw e

    -- Removal from words that do not fit is refused by 12.
    pub remove_misfit : words_fit K ws ≡ false → (c : ℕ) → remove_in K ws c ≡ refused 12
    unfolding remove_in calls.remove
    remove_misfit e c = rw e

  -- ---- the calls that are not refused

  module _ (ws : List ℕ) (ok : words_fit K ws ≡ true) where
    enough : head_words K + (said_by K ws).threshold ≤ length ws
    enough = (fit_parts K ws ok).enough

    many : length (said_by K ws).sums ≡ (said_by K ws).threshold
    many = (fit_parts K ws ok).well.as_many

    -- The sums stand where they stood.
    in_use : (t n has last : ℕ) {m : ℕ} {front : List ℕ} → t ≡ (said_by K ws).threshold → m ≡ t → front ≡ headed K ws t n has last
        → take m (drop (head_words K) front) ≡ (said_by K ws).sums
    unfolding said_by
    in_use t n has last et em ef = rw (em, et, behind K ws t n has last ef (omega (arith, enough)))

    -- Insertion: the threshold, one more, a last code and the residue are stored, and the sums in use go up by its powers.
    pub insert_stores : (c : ℕ) {x t m n has last : ℕ} {front sums : List ℕ} → t ≡ (said_by K ws).threshold → m ≡ t → n ≡ ((said_by K ws).count + 1) % counts
        → has ≡ 1
        → last ≡ residue K c → front ≡ headed K ws t n has last → x ≡ residue K c → sums ≡ moved_by_powers K false x (take m (drop (head_words K) front))
        → (0 ≡ refusal_of (insert_in K ws c)) × (put_mid (head_words K) m front sums ≡ written (insert_in K ws c) ws)
    unfolding insert_in calls.insert sketch.insert
    insert_stores c {x} {t} {m} {n} {has} {last} et em en eh el ef ex es =
        let after = sketch.insert K (said_by K ws) c in
        let comes : insert_in K ws c ≡ given (words_of K after) = rw ok in
        let moved : length after.sums ≡ (said_by K ws).threshold = each_length _ 1 (said_by K ws).sums ∙ many in
        stores K ws after comes ef et en eh el (es ∙ rw (in_use t n has last et em ef, ex)) (em ∙ et ∙ sym moved) (omega (arith, moved, enough))

    -- Removal: one less, the last code unless it is the code's residue, and the sums in use go down by the powers of that residue.
    pub remove_stores : (c : ℕ) {x t m n has last : ℕ} {front sums : List ℕ} → t ≡ (said_by K ws).threshold → m ≡ t → n ≡ difference counts (said_by K ws).count 1
        → has ≡ cond (eqb (code_or0 (said_by K ws).last) (residue K c)) 0 (has_code (said_by K ws).last)
        → last ≡ cond (eqb (code_or0 (said_by K ws).last) (residue K c)) 0 (code_or0 (said_by K ws).last)
        → front ≡ headed K ws t n has last → x ≡ residue K c → sums ≡ moved_by_powers K true x (take m (drop (head_words K) front))
        → (0 ≡ refusal_of (remove_in K ws c)) × (put_mid (head_words K) m front sums ≡ written (remove_in K ws c) ws)
    unfolding remove_in calls.remove sketch.remove
    remove_stores c {x} {t} {m} {n} {has} {last} et em en eh el ef ex es =
        let after = sketch.remove K (said_by K ws) c in
        let comes : remove_in K ws c ≡ given (words_of K after) = rw ok in
        let moved : length after.sums ≡ (said_by K ws).threshold = each_length _ 1 (said_by K ws).sums ∙ many in
        let kept = without_words (said_by K ws).last (residue K c) in
        stores K ws after comes ef et en (eh ∙ sym kept.0) (el ∙ sym kept.1) (es ∙ rw (in_use t n has last et em ef, ex)) (em ∙ et ∙ sym moved)
        (omega (arith, moved, enough))

  -- ---- subtractions

  -- The differences of the first sums of two lists of words are those of the sketches that they say.
  differences_said : (ws vs : List ℕ) → words_fit K ws ≡ true → words_fit K vs ≡ true → {m : ℕ} → m ≡ min (said_by K ws).threshold (said_by K vs).threshold
      → differences K (take m (drop (head_words K) ws)) (take m (drop (head_words K) vs)) ≡ (sketch.subtract K (said_by K ws) (said_by K vs)).sums
  unfolding said_by sketch.subtract
  differences_said ws vs ok ok' {m} em =
      let l = drop (head_words K) ws in
      let o = drop (head_words K) vs in
      let t = (said_by K ws).threshold in
      let u = (said_by K vs).threshold in
      let tl : t ≤ length l = omega (arith, length-drop (head_words K) ws, (fit_parts K ws ok).enough) in
      let uo : u ≤ length o = omega (arith, length-drop (head_words K) vs, (fit_parts K vs ok').enough) in
      differences_parts K m t u l o em tl uo

  module _ (ws vs : List ℕ) where
    -- Subtraction in place of words of which either do not fit is refused by 12.
    pub sub_assign_misfit : words_fit K ws && words_fit K vs ≡ false → sub_assign_in K ws vs ≡ refused 12
    unfolding sub_assign_in calls.sub_assign
    sub_assign_misfit e = rw e

    -- Subtraction of words of which either do not fit is refused by 12.
    pub sub_misfit : (places : ℕ) → words_fit K ws && words_fit K vs ≡ false → sub_in K ws vs places ≡ refused 12
    unfolding sub_in calls.sub
    sub_misfit places e = rw e

  module _ (ws vs : List ℕ) (ok : words_fit K ws ≡ true) (ok' : words_fit K vs ≡ true) where
    subtracted_many : length (sketch.subtract K (said_by K ws) (said_by K vs)).sums ≡ min (said_by K ws).threshold (said_by K vs).threshold
    unfolding sketch.subtract
    subtracted_many =
        each_length _ 0 (take (min (said_by K ws).threshold (said_by K vs).threshold) (said_by K ws).sums)
        ∙ length-take-le (min (said_by K ws).threshold (said_by K vs).threshold) (said_by K ws).sums (omega (arith, many ws ok))

    -- As many differences as the smaller threshold, over sums in use that are as many.
    over : {m : ℕ} → m ≡ min (said_by K ws).threshold (said_by K vs).threshold
        → let l = take m (drop (head_words K) ws) in let o = take m (drop (head_words K) vs) in
        differences K l o ++ drop (common l o) l ≡ (sketch.subtract K (said_by K ws) (said_by K vs)).sums
    over {m} em =
        let l = take m (drop (head_words K) ws) in
        let o = take m (drop (head_words K) vs) in
        let long = length-take-le m (drop (head_words K) ws) (omega (arith, em, length-drop (head_words K) ws, enough ws ok)) in
        let long' = length-take-le m (drop (head_words K) vs) (omega (arith, em, length-drop (head_words K) vs, enough vs ok')) in
        let none : length l ≤ common l o = omega (arith, long, long') in
        rw (drop_of_length-le l none) (append-nil (differences K l o) ∙ differences_said ws vs ok ok' em)

    -- Subtraction in place of words that fit is refused by 2 where the thresholds differ.
    pub sub_assign_other : ((said_by K ws).threshold ≡ (said_by K vs).threshold → ⊥) → sub_assign_in K ws vs ≡ refused 2
    unfolding sub_assign_in calls.sub_assign
    sub_assign_other d = rw (ok, ok', ne_eqb (said_by K ws).threshold (said_by K vs).threshold d)

    -- Subtraction in place: the threshold, the difference of the counts and no last code are stored, and the sums in use less the other's.
    pub sub_assign_stores : {t m n has last : ℕ} {front sums : List ℕ} → (said_by K ws).threshold ≡ (said_by K vs).threshold → t ≡ (said_by K ws).threshold → m ≡ t
        → n ≡ difference counts (said_by K ws).count (said_by K vs).count → has ≡ 0 → last ≡ 0 → front ≡ headed K ws t n has last
        → (let l = take m (drop (head_words K) front) in let o = take m (drop (head_words K) vs) in sums ≡ differences K l o ++ drop (common l o) l)
        → (0 ≡ refusal_of (sub_assign_in K ws vs)) × (put_mid (head_words K) m front sums ≡ written (sub_assign_in K ws vs) ws)
    unfolding sub_assign_in calls.sub_assign sketch.subtract
    sub_assign_stores {t} {m} {n} {has} {last} {front} same et em en eh el ef es =
        let after = sketch.subtract K (said_by K ws) (said_by K vs) in
        let comes : sub_assign_in K ws vs ≡ given (words_of K after) = rw (ok, ok', eq-eqb (said_by K ws).threshold (said_by K vs).threshold same) in
        let least : min (said_by K ws).threshold (said_by K vs).threshold ≡ t = omega (arith, same, et) in
        let stood : drop (head_words K) front ≡ drop (head_words K) ws = behind K ws t n has last ef (omega (arith, enough ws ok)) in
        stores K ws after comes ef (sym least) en eh el (es ∙ rw stood (over (em ∙ sym least))) (em ∙ sym least ∙ sym subtracted_many)
        (omega (arith, subtracted_many, enough ws ok))

    -- Subtraction to a slice of fewer words than it gives.
    pub sub_short : {t : ℕ} → t ≡ min (said_by K ws).threshold (said_by K vs).threshold → (places : ℕ) → places < head_words K + t
        → sub_in K ws vs places ≡ refused 5
    unfolding sub_in calls.sub
    sub_short {t} et places few =
        let after = sketch.subtract K (said_by K ws) (said_by K vs) in
        rw (ok, ok') (fitting_short (words_of K after) (words_length K after) (omega (arith, few, et, subtracted_many)))

    -- Otherwise the smaller threshold, the difference of the counts and no last code are stored, and the differences of the sums that both have.
    pub sub_stores : (to : List ℕ) {t m n has last : ℕ} {front sums : List ℕ} → t ≡ min (said_by K ws).threshold (said_by K vs).threshold → m ≡ t
        → head_words K + t ≤ length to → n ≡ difference counts (said_by K ws).count (said_by K vs).count → has ≡ 0 → last ≡ 0 → front ≡ headed K to t n has last
        → sums ≡ copied (take m (drop (head_words K) front)) (differences K (take m (drop (head_words K) ws)) (take m (drop (head_words K) vs)))
        → (0 ≡ refusal_of (sub_in K ws vs (length to))) × (put_mid (head_words K) m front sums ≡ written (sub_in K ws vs (length to)) to)
    unfolding sub_in calls.sub sketch.subtract
    sub_stores to {t} {m} {n} {has} {last} {front} et em room en eh el ef es =
        let after = sketch.subtract K (said_by K ws) (said_by K vs) in
        let fits : head_words K + length after.sums ≤ length to = omega (arith, subtracted_many, et) in
        let comes : sub_in K ws vs (length to) ≡ given (words_of K after) = rw (ok, ok') (fitting_given (words_of K after) (words_length K after) fits) in
        let part = take m (drop (head_words K) front) in
        let found = differences K (take m (drop (head_words K) ws)) (take m (drop (head_words K) vs)) in
        let long : length part ≡ m = length-take-le m (drop (head_words K) front)
        (omega (arith, em, room, length-drop (head_words K) front, as_many K to t n has last ef)) in
        let many' : length found ≡ m = ap length (differences_said ws vs ok ok' (em ∙ et)) ∙ subtracted_many ∙ sym (em ∙ et) in
        stores K to after comes ef et en eh el (es ∙ copied_whole part found (omega (arith, long, many'))
        ∙ take_all (length part) found (omega (arith, long, many')) ∙ differences_said ws vs ok ok' (em ∙ et)) (em ∙ et ∙ sym subtracted_many) fits

  -- ---- coefficients

  -- As many coefficients as the count, solved for over the part of a buffer from the sums in use, are the sketch's.
  pub coefficients_stored : (ws : List ℕ) → words_fit K ws ≡ true → (buffer : List ℕ) {t n m k : ℕ} {after : List ℕ} → t ≡ (said_by K ws).threshold
      → n ≡ (said_by K ws).count
      → m ≡ t → k ≡ n → n ≤ t → n ≤ length buffer
      → (let sums = take m (drop (head_words K) ws) in let part = take k buffer in
      after ≡ coefficients K sums (common sums part) ++ drop (common sums part) part)
      → after ≡ coefficients K (said_by K ws).sums (said_by K ws).count
  unfolding said_by
  coefficients_stored ws ok buffer {t} {n} {m} {k} et en em ek few room es =
      let said : take m (drop (head_words K) ws) ≡ (said_by K ws).sums = rw (em, et) in
      coefficients_over_part K (said_by K ws).sums (take k buffer) (said_by K ws).count (length-take-le k buffer (omega (arith, ek, room)) ∙ ek ∙ en)
      (omega (arith, many ws ok, few, et, en)) (es ∙ rw said)

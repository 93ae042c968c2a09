-- The exported calls that write and read packets, test by test, and how what reading stores is what it gives.
-- Assumes nothing.
use Prim.Native.Nat.{ℕ, ◌+◌, ◌-◌, ◌≤◌, min}
use mathlib.Core.Path.{◌≡◌, refl, sym, ◌∙◌, ap}
use mathlib.Core.Bool.{Bool, true, false}
use mathlib.Core.List.{List, ◌++◌, append-nil}
use native.Mathlib.Nat.{mod-eq_of_lt}
use native.Mathlib.Omega.{arith}
use lib.Dec.{leb}
use lib.ListN.{length, take, drop, length-drop, drop_of_length-le, length-append}
use lib.Seq.{drop_at, length-take-le, take-take, take_all}
use borrow.Author.Tests.{leb-true, leb-false, ltb-true}
use borrow.Rule.Slice.PartMut.{put_mid, put_same, same_len_mid}
use Rattle.rules.specs.Kind.{Kind}
use Rattle.rules.specs.Field.{residue}
use Rattle.rules.specs.Sketch.{Sketch, Last, nothing, code, has_code, code_or0, last_fits}
use Rattle.rules.specs.Calls as calls
use Rattle.rules.specs.Packet.{packet, sums_at, sums_in, sketch_in}
use Rattle.rules.specs.Calls.{Outcome, refused, given, unless, refusal_of, written, fitting, packed, within, read_for, sketch_or, sums_given}
use Rattle.rules.specs.Words.{head_words, head, words_fit, said_by, words_of, write_in}
use Rattle.rules.specs.Words.{write_with_hint_in, read_in}
use Rattle.rules.specs.Words.{in_words, into_words}
use Rattle.rules.proofs.Bytes.{fitting_short, fitting_given, hint_malformed, hint_packed, refused_by, Reads, read_unrefused}
use Rattle.rules.proofs.Field.{positive}
use Rattle.rules.proofs.Packet.{all_numbers_length, read_some, read_as_many}
use Rattle.rules.proofs.Words.{headed, headed_is, fit_parts, words_length, words_written}
use Rattle.rules.proofs.Exported.{refuses, gives}

-- ---- a sketch stored

-- Sums stored over the part behind the head, and then the head, are the words of a sketch over the front.
words_read : (K : Kind) (out : List ℕ) (s : Sketch) {at m t n has last : ℕ} {after : List ℕ} → head_words K ≤ length out → at ≡ head_words K
    → m ≡ length out - head_words K
    → after ≡ s.sums ++ drop (length s.sums) (take m (drop at out)) → t ≡ s.threshold → n ≡ s.count → has ≡ has_code s.last → last ≡ code_or0 s.last
    → headed K (put_mid at m out after) t n has last ≡ written (given (words_of K s)) out
words_read K out s {at} {m} {t} {n} {has} {last} {after} l ea em es et en eh el =
    let rest = drop (head_words K) out in
    let size = length-drop (head_words K) out in
    let first = length-take-le (head_words K) out l in
    let sums = s.sums ++ drop (length s.sums) rest in
    let stored : put_mid at m out after ≡ take (head_words K) out ++ sums =
    rw (es, ea, take_all m rest (omega (arith, em, size)), drop_of_length-le rest {i = m} (omega (arith, em, size)), append-nil) in
    let room : head_words K ≤ length (take (head_words K) out ++ sums) = omega (arith, length-append (take (head_words K) out) sums, first) in
    rw (stored, et, en, eh, el)
    (headed_is K (take (head_words K) out ++ sums) s.threshold s.count (has_code s.last) (code_or0 s.last) room
    ∙ ap (λ (r : List ℕ). head K s.threshold s.count (has_code s.last) (code_or0 s.last) ++ r)
    (drop_at (take (head_words K) out) sums (head_words K) first) ∙ words_written K out s)

module _ (K : Kind) where
  -- ---- packets written

  -- A packet has a last code, or is refused.
  packed_none : (s : Sketch) (l : Last) (m room : ℕ) → has_code l ≡ 0 → packed K s l m room ≡ refused 3
  packed_none s nothing m room e = refl
  packed_none s (code x) m room e = absurd (omega (arith, e))

  packed_code : (s : Sketch) (l : Last) (m room : ℕ) → (has_code l ≡ 0 → ⊥)
      → packed K s l m room ≡ fitting (packet K s.count (code_or0 l) (take m s.sums)) room
  packed_code s nothing m room e = absurd (e refl)
  packed_code s (code x) m room e = refl

  -- A last code that fits is its own residue.
  last_reduced : (l : Last) → last_fits K l ≡ true → residue K (code_or0 l) ≡ code_or0 l
  last_reduced nothing e = mod-eq_of_lt (positive K)
  last_reduced (code x) e = mod-eq_of_lt (ltb-true x K.modulus e)

  -- Writing of words that do not fit is refused by 12.
  pub hint_misfit : (ws : List ℕ) (h room : ℕ) → words_fit K ws ≡ false → write_with_hint_in K ws h room ≡ refused 12
  unfolding write_with_hint_in
  hint_misfit ws h room e = hint_malformed K (said_by K ws) h room e

  module _ (ws : List ℕ) (ok : words_fit K ws ≡ true) (h room : ℕ) where
    -- Writing of words that fit is refused by 3 where they say no last code.
    pub hint_without : has_code (said_by K ws).last ≡ 0 → write_with_hint_in K ws h room ≡ refused 3
    unfolding write_with_hint_in
    hint_without none = hint_packed K (said_by K ws) h room (min (said_by K ws).threshold h) ok refl ∙ packed_none (said_by K ws) (said_by K ws).last _ room none

    -- The packet of the count, the last code and the first sums in use.
    pub hint_fitting : (has_code (said_by K ws).last ≡ 0 → ⊥) → {m n x k : ℕ} → m ≡ min (said_by K ws).threshold h → n ≡ (said_by K ws).count
        → x ≡ residue K (code_or0 (said_by K ws).last) → k ≡ m → write_with_hint_in K ws h room ≡ fitting (packet K n x (take k (drop (head_words K) ws))) room
    unfolding write_with_hint_in said_by
    hint_fitting some {m} {n} {x} {k} em en ex ek =
        hint_packed K (said_by K ws) h room m ok em ∙ packed_code (said_by K ws) (said_by K ws).last m room some
        ∙ rw (
          en,
          ex,
          ek,
          last_reduced (said_by K ws).last (fit_parts K ws ok).well.last_fits,
          take-take m (said_by K ws).threshold (drop (head_words K) ws)
              (omega (arith, em)),
        )

  -- Writing with the greatest threshold for a hint is writing.
  pub all_sums : (ws : List ℕ) (room : ℕ) → write_with_hint_in K ws K.greatest room ≡ write_in K ws room
  unfolding write_with_hint_in write_in calls.write calls.write_with_hint
  all_sums ws room = by_test (words_fit K ws) refl
    where
      by_test : (fit : Bool) → words_fit K ws ≡ fit
          → unless fit 12 (packed K (said_by K ws) (said_by K ws).last (min (said_by K ws).threshold K.greatest) room)
          ≡ unless fit 12 (packed K (said_by K ws) (said_by K ws).last (said_by K ws).threshold room)
      by_test true e = ap (λ (m : ℕ). packed K (said_by K ws) (said_by K ws).last m room) (omega (arith, (fit_parts K ws e).well.at_most))
      by_test false e = refl

  -- ---- a packet read

  -- Reading into words comes to reading into the places behind the head.
  pub read_behind : (bs : List ℕ) (places : ℕ) → read_in K bs places ≡ in_words K (read_for K bs (places - min places (head_words K)))
  unfolding read_in
  read_behind bs places = by_outcome (calls.read K bs) refl
    where
      by_room : (s : Sketch) → 1 ≤ s.threshold → length s.sums ≡ s.threshold → (b : Bool) → leb s.threshold (places - min places (head_words K)) ≡ b
          → fitting (words_of K s) places ≡ in_words K (unless b 5 (given s))
      by_room s some long true e =
          let room = leb-true s.threshold (places - min places (head_words K)) e in
          fitting_given (words_of K s) (words_length K s) (omega (arith, room, some, long))
      by_room s some long false e =
          let few = leb-false s.threshold (places - min places (head_words K)) e in
          fitting_short (words_of K s) (words_length K s) (omega (arith, few, some, long))

      by_outcome : (o : Outcome Sketch) → calls.read K bs ≡ o → into_words K places o ≡ in_words K (within o (places - min places (head_words K)))
      by_outcome (refused n) e = refl
      by_outcome (given s) e = by_room s (read_some K bs s e) (read_as_many K bs s e) (leb s.threshold (places - min places (head_words K))) refl

  module _ (bs out : List ℕ) {at m : ℕ} (ea : at ≡ min (length out) (head_words K)) (em : m ≡ length out - at) where
    -- The words behind the head, and what reading into them comes to.
    abbrev part : List ℕ
    part = take m (drop at out)

    abbrev comes : Outcome Sketch
    comes = read_for K bs (length part)

    part_length : length part ≡ length out - min (length out) (head_words K)
    part_length = length-take-le m (drop at out) (omega (arith, em, length-drop at out)) ∙ omega (arith, em, ea)

    into_words_lem : read_in K bs (length out) ≡ in_words K comes
    into_words_lem = read_behind bs (length out) ∙ ap (λ (places : ℕ). in_words K (read_for K bs places)) (sym part_length)

    -- A packet that is refused leaves every word.
    pub read_refuses : {n : ℕ} {after : List ℕ} → (n ≡ 0 → ⊥) → n ≡ refusal_of comes → after ≡ written (sums_given comes) part
        → (n ≡ refusal_of (read_in K bs (length out))) × (put_mid at m out after ≡ written (read_in K bs (length out)) out)
    read_refuses {n} {after} some en es =
        let no = refused_by comes en some in
        let stays : after ≡ part = es ∙ ap (λ (o : Outcome Sketch). written (sums_given o) part) no in
        let kept : put_mid at m out after ≡ out = ap (put_mid at m out) stays ∙ put_same at m out in
        let is = refuses out (into_words_lem ∙ ap (in_words K) no) in
        (is.0, kept ∙ is.1)

    module _ {t : ℕ} {after : List ℕ} (none : refusal_of comes ≡ 0) (et : t ≡ (sketch_or comes).threshold) (es : after ≡ written (sums_given comes) part) where
      reads : Reads K bs (length part)
      reads = read_unrefused K bs (length part) none

      -- There is a word for a sum behind the head.
      four : head_words K + 1 ≤ length out
      four = omega (arith, part_length, reads.room, reads.some)

      stored_sums : after ≡ (sketch_in K bs).sums ++ drop (length (sketch_in K bs).sums) part
      stored_sums = es ∙ ap (λ (o : Outcome Sketch). written (sums_given o) part) reads.says

      read_many : length (sketch_in K bs).sums ≡ sums_in K (length bs)
      unfolding sketch_in
      read_many = all_numbers_length K.code_bytes (sums_in K (length bs)) (drop (sums_at K) bs)

      -- The words before the sums are there, and the threshold is one of a sketch.
      pub read_room : (head_words K ≤ length (put_mid at m out after)) × (t ≤ K.greatest)
      unfolding sketch_in
      read_room =
          let as_long : length after ≡ length part =
          ap length stored_sums ∙ length-append (sketch_in K bs).sums _
          ∙ omega (arith, length-drop (length (sketch_in K bs).sums) part, read_many, reads.room) in
          let whole = same_len_mid at m out after as_long in
          let small : t ≡ sums_in K (length bs) = et ∙ ap (λ (o : Outcome Sketch). (sketch_or o).threshold) reads.says in
          (omega (arith, whole, four), omega (arith, small, reads.few))

      -- A packet that is read: its sums are stored behind the head, and then the head.
      pub read_stores : {n has last : ℕ} {front : List ℕ} → n ≡ (sketch_or comes).count → has ≡ 1 → last ≡ code_or0 (sketch_or comes).last
          → front ≡ headed K (put_mid at m out after) t n has last
          → (0 ≡ refusal_of (read_in K bs (length out))) × (front ≡ written (read_in K bs (length out)) out)
      unfolding sketch_in
      read_stores {n} {has} {last} en eh el ef =
          gives out (into_words_lem ∙ ap (in_words K) reads.says)
          (ef ∙ words_read K out (sketch_in K bs) (omega (arith, four)) (ea ∙ omega (arith, four)) (em ∙ omega (arith, ea, four)) stored_sums
          (et ∙ ap (λ (o : Outcome Sketch). (sketch_or o).threshold) reads.says) (en ∙ ap (λ (o : Outcome Sketch). (sketch_or o).count) reads.says) eh
          (el ∙ ap (λ (o : Outcome Sketch). code_or0 (sketch_or o).last) reads.says))

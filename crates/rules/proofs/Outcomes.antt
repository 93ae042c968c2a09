-- What the calls on lists come to, refusal by refusal, in their order; and that every refusal has a number of the table.
-- Assumes nothing.
use Prim.Native.Nat.{ℕ, zero, suc, ◌≤◌, ◌<◌, min}
use mathlib.Core.Path.{◌≡◌, refl, sym, ◌∙◌}
use mathlib.Core.Bool.{Bool, true, false, cond, ◌&&◌, false≢true}
use mathlib.Core.List.{List, []}
use native.Mathlib.Omega.{arith}
use lib.Dec.{leb, ltb, eqb}
use lib.ListN.{length, take}
use lib.Seq.{take_all}
use borrow.Author.Tests.{lt-ltb, le-ltb, ltb-true, ltb-false, le-leb, lt-leb, leb-true, eq-eqb, ne_eqb}
use Rattle.numbers.specs.Table.{every}
use Rattle.rules.specs.Kind.{Kind, counts, half_counts}
use Rattle.rules.specs.Sketch as sketch
use Rattle.rules.specs.Sketch.{Sketch, Last, nothing, code, in_range, surplus_in}
use Rattle.rules.specs.Decode as decoding
use Rattle.rules.specs.Sums.{roots}
use Rattle.rules.specs.Packet.{packet, sums_at, sums_in, sums_of, sketch_in}
use Rattle.rules.specs.Calls.{Outcome, refused, given, unless, refusal_of, fitting, packed, make, insert, remove, sub_assign, sub}
use Rattle.rules.specs.Calls.{negate, coefficients, evaluate, evaluate_once, decode, decode_surplus, write_with_hint, write, read, within, read_for}
use Rattle.rules.specs.Words.{words_fit, said_by, words_of, in_words, into_words, new_in, insert_in, remove_in, sub_assign_in, sub_in}
use Rattle.rules.specs.Words.{negate_in, coefficients_in, decode_in, decode_surplus_in, write_in, write_with_hint_in, read_in}
use Rattle.rules.proofs.Each.{and_first, and_second}
use Rattle.rules.proofs.Recurrence.{coefficients_length}
use Rattle.rules.proofs.Listing.{no_roots}
use Rattle.rules.proofs.Negation.{none_surplus, surplus_is_negated}

-- ---- evaluation

module _ (K : Kind) (cs : List ℕ) (c : ℕ) where
  -- No coefficient.
  pub evaluate_none : length cs ≤ 0 → evaluate K cs c ≡ refused 11
  unfolding evaluate
  evaluate_none l = rw (le-ltb 0 (length cs) l)

  module _ (some : 0 < length cs) where
    -- A coefficient that is the prime or more.
    pub evaluate_large : every (λ (k a : ℕ). ltb a K.modulus) 0 cs ≡ false → evaluate K cs c ≡ refused 8
    unfolding evaluate
    evaluate_large e = rw (lt-ltb 0 (length cs) some, e)

    -- Otherwise the value.
    pub evaluate_given : every (λ (k a : ℕ). ltb a K.modulus) 0 cs ≡ true → evaluate K cs c ≡ given (decoding.evaluate K cs c)
    unfolding evaluate
    evaluate_given e = rw (lt-ltb 0 (length cs) some, e)

    -- More coefficients than the greatest threshold, with one reduction.
    pub once_many : K.greatest < length cs → evaluate_once K cs c ≡ refused 4
    unfolding evaluate_once
    once_many l = rw (lt-ltb 0 (length cs) some, lt-leb (length cs) K.greatest l)

  -- Up to as many, one reduction comes to what plain evaluation comes to.
  pub once_plain : length cs ≤ K.greatest → evaluate_once K cs c ≡ evaluate K cs c
  unfolding evaluate_once evaluate
  once_plain l = rw (le-leb (length cs) K.greatest l) (twice (ltb 0 (length cs)) _)
    where
      twice : (some : Bool) (o : Outcome ℕ) → unless some 11 (unless some 11 o) ≡ unless some 11 o
      twice true o = refl
      twice false o = refl

-- ---- coefficients and decoding

none_or_roots : (n : ℕ) (l : List ℕ) → (n ≡ 0 → l ≡ []) → cond (eqb n 0) [] l ≡ l
none_or_roots zero l e = sym (e refl)
none_or_roots (suc n) l e = rw (ne_eqb (suc n) 0 (λ z. omega arith))

-- What is listed with the coefficients that an outcome gives: their roots in a log, for a lent buffer of so many places.
abbrev pub listed : Kind → List ℕ → ℕ → Outcome (List ℕ) → Outcome (List ℕ)
listed K log places (refused n) = refused n
listed K log places (given cs) = unless (leb (length log) places) 5 (given (roots K cs log))

module _ (K : Kind) (log : List ℕ) (places : ℕ) {cs : List ℕ} {o : Outcome (List ℕ)} (e : o ≡ given cs) where
  -- Fewer places than entries.
  pub listed_short : places < length log → listed K log places o ≡ refused 5
  listed_short l = rw (e, lt-leb (length log) places l)

  -- Otherwise the roots among the entries, which the places have room for.
  pub listed_given : length log ≤ places → listed K log places o ≡ given (roots K cs (take places log))
  listed_given l = rw (e, le-leb (length log) places l, take_all places log l)

module _ (K : Kind) (s : Sketch) where
  -- A sketch that is not well formed.
  pub coefficients_malformed : {ok : Bool} (places : ℕ) → ok ≡ false → coefficients K ok s places ≡ refused 12
  unfolding coefficients
  coefficients_malformed places e = rw e

  module _ {ok : Bool} (well : ok ≡ true) where
    -- A count above the threshold.
    pub coefficients_over : (places : ℕ) → s.threshold < s.count → coefficients K ok s places ≡ refused 4
    unfolding coefficients
    coefficients_over places l = rw (well, lt-leb s.count s.threshold l)

    module _ (within : s.count ≤ s.threshold) where
      -- A buffer that is too short.
      pub coefficients_short : (places : ℕ) → places < s.count → coefficients K ok s places ≡ refused 5
      unfolding coefficients
      coefficients_short places l = rw (well, le-leb s.count s.threshold within, lt-leb s.count places l)

      -- Otherwise the coefficients.
      pub coefficients_given : (places : ℕ) → s.count ≤ places → coefficients K ok s places ≡ given (decoding.coefficients K s.sums s.count)
      unfolding coefficients
      coefficients_given places l = rw (well, le-leb s.count s.threshold within, le-leb s.count places l)

  -- The entries listed are the roots of the coefficients, for the count 0 too: there is none then.
  decode_roots : (log : List ℕ) → decoding.decode K s log ≡ roots K (decoding.coefficients K s.sums s.count) log
  unfolding decoding.decode
  decode_roots log = none_or_roots s.count _ (λ e. no_roots K _ log (coefficients_length K s.sums s.count ∙ e))

  -- So decoding comes to what the coefficients come to, for a buffer of as many places as the greatest threshold, and then to their roots, or to 5.
  pub decode_from : (ok : Bool) → (ok ≡ true → s.threshold ≤ K.greatest) → (log : List ℕ) (places : ℕ)
      → decode K ok s log places ≡ listed K log places (coefficients K ok s K.greatest)
  unfolding decode coefficients
  decode_from false few log places = refl
  decode_from true few log places = by_test (leb s.count s.threshold) refl
    where
      by_test : (within : Bool) → leb s.count s.threshold ≡ within
          → unless within 4 (unless (leb (length log) places) 5 (given (decoding.decode K s log)))
          ≡ listed K log places (unless within 4 (unless (leb s.count K.greatest) 5 (given (decoding.coefficients K s.sums s.count))))
      by_test false e = refl
      by_test true e =
          let l = leb-true s.count s.threshold e in
          rw (le-leb s.count K.greatest (omega (arith, few refl)), decode_roots log)

-- ---- surplus

module _ (K : Kind) (s : Sketch) (got : List ℕ) (places : ℕ) where
  -- A sketch that is not well formed.
  pub surplus_malformed : {ok : Bool} → ok ≡ false → decode_surplus K ok s got places ≡ refused 12
  unfolding decode_surplus
  surplus_malformed e = rw e

  module _ {ok : Bool} (well : ok ≡ true) where
    -- A surplus above the threshold.
    pub surplus_over : s.threshold < surplus_in s → decode_surplus K ok s got places ≡ refused 4
    unfolding decode_surplus
    surplus_over l = rw (well, lt-leb (surplus_in s) s.threshold l)

    module _ (within : surplus_in s ≤ s.threshold) where
      -- Fewer places than got codes.
      pub surplus_short : places < length got → decode_surplus K ok s got places ≡ refused 5
      unfolding decode_surplus
      surplus_short l = rw (well, le-leb (surplus_in s) s.threshold within, lt-leb (length got) places l)

      module _ (room : length got ≤ places) where
        -- No surplus: nothing is listed.
        pub surplus_none : surplus_in s ≡ 0 → decode_surplus K ok s got places ≡ given []
        unfolding decode_surplus decoding.surplus
        surplus_none e = rw (well, le-leb (surplus_in s) s.threshold within, le-leb (length got) places room, eq-eqb (surplus_in s) 0 e)

        -- Otherwise what decoding the got codes by the negated sketch comes to.
        pub surplus_negated : (surplus_in s ≡ 0 → ⊥) → s.count < counts → decode_surplus K ok s got places ≡ decode K true (sketch.negate K s) got places
        unfolding decode_surplus decoding.surplus decode sketch.negate
        surplus_negated some u =
            rw (
              well,
              le-leb (surplus_in s) s.threshold within,
              ← size,
              le-leb (surplus_in s) (sketch.negate K s).threshold within,
              le-leb (length got) places room,
              ne_eqb (surplus_in s) 0 some,
            )
          where
            size : surplus_in s ≡ (sketch.negate K s).count
            size = by_half (ltb s.count half_counts) refl
              where
                by_half : (small : Bool) → ltb s.count half_counts ≡ small → surplus_in s ≡ (sketch.negate K s).count
                by_half true t = absurd (some (none_surplus K s (ltb-true s.count half_counts t)))
                by_half false t = surplus_is_negated K s (ltb-false s.count half_counts t) u

-- ---- every refusal has a number of the table

-- An outcome whose refusal, if it is one, has a number from 1 to 12.
abbrev pub Numbered : {A : Type 0} → Outcome A → Type 0
Numbered (refused n) = leb 1 n && leb n 12 ≡ true
Numbered (given a) = Unit {0}

-- Such a number lies between.
pub in_table : (n : ℕ) → leb 1 n && leb n 12 ≡ true → (1 ≤ n) × (n ≤ 12)
in_table n h = (leb-true 1 n (and_first (leb 1 n) (leb n 12) h), leb-true n 12 (and_second (leb 1 n) (leb n 12) h))

-- So has one behind a test.
unless_numbered : {A : Type 0} (ok : Bool) (n : ℕ) (o : Outcome A) → leb 1 n && leb n 12 ≡ true → Numbered o → Numbered (unless ok n o)
unless_numbered true n o z h = h
unless_numbered false n o z h = z

fitting_numbered : (l : List ℕ) (room : ℕ) → Numbered (fitting l room)
fitting_numbered l room = unless_numbered (leb (length l) room) 5 (given l) refl tt

module _ (K : Kind) where
  -- Every refusal of make is numbered.
  pub make_numbered : (t : ℕ) → Numbered (make K t)
  unfolding make
  make_numbered t = unless_numbered (in_range K t) 1 (given (sketch.fresh t)) refl tt

  module _ (ok : Bool) (s : Sketch) where
    -- Every refusal of insert is numbered.
    pub insert_numbered : (c : ℕ) → Numbered (insert K ok s c)
    unfolding insert
    insert_numbered c = unless_numbered ok 12 (given (sketch.insert K s c)) refl tt

    -- Every refusal of remove is numbered.
    pub remove_numbered : (c : ℕ) → Numbered (remove K ok s c)
    unfolding remove
    remove_numbered c = unless_numbered ok 12 (given (sketch.remove K s c)) refl tt

    -- Every refusal of subtract in place is numbered.
    pub sub_assign_numbered : (o : Sketch) → Numbered (sub_assign K ok s o)
    unfolding sub_assign
    sub_assign_numbered o =
        let next = given (sketch.subtract K s o) in
        let same = eqb s.threshold o.threshold in
        unless_numbered ok 12 (unless same 2 next) refl (unless_numbered same 2 next refl tt)

    -- Every refusal of subtract is numbered.
    pub sub_numbered : (o : Sketch) → Numbered (sub K ok s o)
    unfolding sub
    sub_numbered o = unless_numbered ok 12 (given (sketch.subtract K s o)) refl tt

    -- Every refusal of negate is numbered.
    pub negate_numbered : Numbered (negate K ok s)
    unfolding negate
    negate_numbered = unless_numbered ok 12 (given (sketch.negate K s)) refl tt

    -- Every refusal of coefficients is numbered.
    pub coefficients_numbered : (places : ℕ) → Numbered (coefficients K ok s places)
    unfolding coefficients
    coefficients_numbered places =
        let next = given (decoding.coefficients K s.sums s.count) in
        let short = leb s.count places in
        let over = leb s.count s.threshold in
        unless_numbered ok 12 (unless over 4 (unless short 5 next)) refl
        (unless_numbered over 4 (unless short 5 next) refl (unless_numbered short 5 next refl tt))

    -- Every refusal of decode is numbered.
    pub decode_numbered : (log : List ℕ) (places : ℕ) → Numbered (decode K ok s log places)
    unfolding decode
    decode_numbered log places =
        let next = given (decoding.decode K s log) in
        let short = leb (length log) places in
        let over = leb s.count s.threshold in
        unless_numbered ok 12 (unless over 4 (unless short 5 next)) refl
        (unless_numbered over 4 (unless short 5 next) refl (unless_numbered short 5 next refl tt))

    -- Every refusal of decoding the surplus is numbered.
    pub decode_surplus_numbered : (got : List ℕ) (places : ℕ) → Numbered (decode_surplus K ok s got places)
    unfolding decode_surplus
    decode_surplus_numbered got places =
        let next = given (decoding.surplus K s got) in
        let short = leb (length got) places in
        let over = leb (surplus_in s) s.threshold in
        unless_numbered ok 12 (unless over 4 (unless short 5 next)) refl
        (unless_numbered over 4 (unless short 5 next) refl (unless_numbered short 5 next refl tt))

    packed_numbered : (l : Last) (m room : ℕ) → Numbered (packed K s l m room)
    packed_numbered nothing m room = refl
    packed_numbered (code x) m room = fitting_numbered (packet K s.count x (take m s.sums)) room

    -- Every refusal of write with a hint is numbered.
    pub hint_numbered : (h room : ℕ) → Numbered (write_with_hint K ok s h room)
    unfolding write_with_hint
    hint_numbered h room = unless_numbered ok 12 _ refl (packed_numbered s.last (min s.threshold h) room)

    -- Every refusal of write is numbered.
    pub write_numbered : (room : ℕ) → Numbered (write K ok s room)
    unfolding write
    write_numbered room = unless_numbered ok 12 _ refl (packed_numbered s.last s.threshold room)

  -- Every refusal of read is numbered.
  pub read_numbered : (bs : List ℕ) → Numbered (read K bs)
  unfolding read
  read_numbered bs =
      let range = in_range K (sums_in K (length bs)) in
      let small = every (λ (k s : ℕ). ltb s K.modulus) 0 (sums_of K bs) in
      let next = given (sketch_in K bs) in
      unless_numbered (leb (sums_at K) (length bs)) 6 (unless range 7 (unless small 8 next)) refl
      (unless_numbered range 7 (unless small 8 next) refl (unless_numbered small 8 next refl tt))

  within_numbered : (o : Outcome Sketch) (places : ℕ) → Numbered o → Numbered (within o places)
  within_numbered (refused n) places h = h
  within_numbered (given s) places h = unless_numbered (leb s.threshold places) 5 (given s) refl tt

  -- Every refusal of reading into so many places is numbered.
  pub read_for_numbered : (bs : List ℕ) (places : ℕ) → Numbered (read_for K bs places)
  read_for_numbered bs places = within_numbered (read K bs) places (read_numbered bs)

  module _ (cs : List ℕ) (c : ℕ) where
    -- Every refusal of evaluate is numbered.
    pub evaluate_numbered : Numbered (evaluate K cs c)
    unfolding evaluate
    evaluate_numbered =
        let next = given (decoding.evaluate K cs c) in
        let small = every (λ (k a : ℕ). ltb a K.modulus) 0 cs in
        unless_numbered (ltb 0 (length cs)) 11 (unless small 8 next) refl (unless_numbered small 8 next refl tt)

    -- Every refusal of evaluation with one reduction is numbered.
    pub evaluate_once_numbered : Numbered (evaluate_once K cs c)
    unfolding evaluate_once
    evaluate_once_numbered =
        let few = leb (length cs) K.greatest in
        unless_numbered (ltb 0 (length cs)) 11 (unless few 4 (evaluate K cs c)) refl (unless_numbered few 4 (evaluate K cs c) refl evaluate_numbered)

  -- ---- the same of the calls on words

  in_words_numbered : (o : Outcome Sketch) → Numbered o → Numbered (in_words K o)
  in_words_numbered (refused n) h = h
  in_words_numbered (given s) h = tt

  into_words_numbered : (places : ℕ) (o : Outcome Sketch) → Numbered o → Numbered (into_words K places o)
  into_words_numbered places (refused n) h = h
  into_words_numbered places (given s) h = fitting_numbered (words_of K s) places

  -- Every refusal of make in words is numbered.
  pub new_in_numbered : (t places : ℕ) → Numbered (new_in K t places)
  unfolding new_in
  new_in_numbered t places = into_words_numbered places (make K t) (make_numbered t)

  module _ (ws : List ℕ) where
    -- Every refusal of insert on words is numbered.
    pub insert_in_numbered : (c : ℕ) → Numbered (insert_in K ws c)
    unfolding insert_in
    insert_in_numbered c = in_words_numbered _ (insert_numbered (words_fit K ws) (said_by K ws) c)

    -- Every refusal of remove on words is numbered.
    pub remove_in_numbered : (c : ℕ) → Numbered (remove_in K ws c)
    unfolding remove_in
    remove_in_numbered c = in_words_numbered _ (remove_numbered (words_fit K ws) (said_by K ws) c)

    -- Every refusal of subtract in place on words is numbered.
    pub sub_assign_in_numbered : (vs : List ℕ) → Numbered (sub_assign_in K ws vs)
    unfolding sub_assign_in
    sub_assign_in_numbered vs = in_words_numbered _ (sub_assign_numbered (words_fit K ws && words_fit K vs) (said_by K ws) (said_by K vs))

    -- Every refusal of subtract on words is numbered.
    pub sub_in_numbered : (vs : List ℕ) (places : ℕ) → Numbered (sub_in K ws vs places)
    unfolding sub_in
    sub_in_numbered vs places = into_words_numbered places _ (sub_numbered (words_fit K ws && words_fit K vs) (said_by K ws) (said_by K vs))

    -- Every refusal of negate on words is numbered.
    pub negate_in_numbered : (places : ℕ) → Numbered (negate_in K ws places)
    unfolding negate_in
    negate_in_numbered places = into_words_numbered places _ (negate_numbered (words_fit K ws) (said_by K ws))

    -- Every refusal of coefficients on words is numbered.
    pub coefficients_in_numbered : (places : ℕ) → Numbered (coefficients_in K ws places)
    unfolding coefficients_in
    coefficients_in_numbered places = coefficients_numbered (words_fit K ws) (said_by K ws) places

    -- Every refusal of decode on words is numbered.
    pub decode_in_numbered : (log : List ℕ) (places : ℕ) → Numbered (decode_in K ws log places)
    unfolding decode_in
    decode_in_numbered log places = decode_numbered (words_fit K ws) (said_by K ws) log places

    -- Every refusal of decoding the surplus on words is numbered.
    pub decode_surplus_in_numbered : (got : List ℕ) (places : ℕ) → Numbered (decode_surplus_in K ws got places)
    unfolding decode_surplus_in
    decode_surplus_in_numbered got places = decode_surplus_numbered (words_fit K ws) (said_by K ws) got places

    -- Every refusal of write on words is numbered.
    pub write_in_numbered : (room : ℕ) → Numbered (write_in K ws room)
    unfolding write_in
    write_in_numbered room = write_numbered (words_fit K ws) (said_by K ws) room

    -- Every refusal of write with a hint on words is numbered.
    pub hint_in_numbered : (h room : ℕ) → Numbered (write_with_hint_in K ws h room)
    unfolding write_with_hint_in
    hint_in_numbered h room = hint_numbered (words_fit K ws) (said_by K ws) h room

  -- Every refusal of read into words is numbered.
  pub read_in_numbered : (bs : List ℕ) (places : ℕ) → Numbered (read_in K bs places)
  unfolding read_in
  read_in_numbered bs places = into_words_numbered places (read K bs) (read_numbered bs)

-- ---- no refusal has the number 0

-- An outcome whose refusal, if it is one, is not 0.
abbrev pub Nonzero : {A : Type 0} → Outcome A → Type 0
Nonzero (refused n) = eqb n 0 ≡ false
Nonzero (given a) = Unit {0}

-- A number of the table is not 0.
pub nonzero : {A : Type 0} (o : Outcome A) → Numbered o → Nonzero o
nonzero (refused n) h = ne_eqb n 0 (λ e. omega (arith, (in_table n h).0, e))
nonzero (given a) h = tt

-- So an outcome without a refusal gives something.
pub unrefused : {A : Type 0} (o : Outcome A) → Nonzero o → refusal_of o ≡ 0 → (a : A) × (o ≡ given a)
unrefused (refused n) h e = absurd (false≢true (sym h ∙ eq-eqb n 0 e))
unrefused (given a) h e = (a, refl)

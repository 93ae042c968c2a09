-- A sketch as bytes: numbers written and read again, a sketch written and read again, and a packet read and written again.
-- Assumes nothing.
use Prim.Native.Nat.{ℕ, zero, suc, ◌+◌, ◌-◌, ◌*◌, ◌/◌, ◌^◌, ◌<◌, ◌≤◌, min}
use mathlib.Core.Path.{◌≡◌, refl, sym, ◌∙◌, ap, ap₂, subst}
use mathlib.Core.Bool.{Bool, true, false}
use mathlib.Core.List.{List, [], ◌∷◌, ◌++◌, append_assoc}
use native.Mathlib.Nat.{pow-succ', pow-zero, mod-eq_of_lt, zero-mul, mul-div_cancel, div-add-mod'}
use native.Mathlib.Decide.{dec_le}
use native.Mathlib.Omega.{arith}
use lib.Dec.{leb, ltb}
use lib.ListN.{length, get_or, take, drop, length-append, length-take, length-drop}
use lib.Seq.{take_at, drop_at, drop-drop, take_all, take-add, length-take-le}
use borrow.Author.Tests.{le-leb, leb-true, lt-ltb, ltb-true}
use Rattle.numbers.specs.Table.{every}
use Rattle.newton.specs.Members.{AllBelow}
use Rattle.rules.specs.Kind.{Kind, count_bytes, counts}
use Rattle.rules.specs.Field.{residue}
use Rattle.rules.specs.Sketch.{Last, nothing, code, Sketch, in_range, last_fits, WellFormed, cut}
use Rattle.rules.specs.Packet.{bytes, number, all_bytes, all_numbers, sums_at, packet_length, packet, sums_in, sums_of, sketch_in}
use Rattle.rules.specs.Calls.{Outcome, given, unless, refusal_of, fitting, packed, write_with_hint, write, read}
use Rattle.rules.specs.History.{HasLast}
use Rattle.rules.proofs.Field.{residue_below}
use Rattle.rules.proofs.Each.{take_below, drop_below, below_every, every_below}
use Rattle.rules.proofs.WellFormed.{in_range_parts}

-- ---- one number

-- A number in n bytes has n of them.
pub bytes_length : (n x : ℕ) → length (bytes n x) ≡ n
unfolding bytes
bytes_length zero x = refl
bytes_length (suc n) x = ap suc (bytes_length n (x / 256))

-- Bytes say a number that they have room for.
pub number_below : (bs : List ℕ) → AllBelow 256 bs → number bs < 256 ^ length bs
unfolding number
number_below [] below = omega (arith, pow-zero 256)
number_below (b ∷ bs) below = omega (arith, number_below bs below.1, pow-succ' 256 (length bs))

-- A number that fits n bytes is what they say.
pub number_of_bytes : (n x : ℕ) → x < 256 ^ n → number (bytes n x) ≡ x
unfolding bytes number
number_of_bytes zero x l = omega (arith, pow-zero 256)
number_of_bytes (suc n) x l = omega (arith, number_of_bytes n (x / 256) (omega (arith, pow-succ' 256 n)))

-- The number that bytes say is written as those bytes.
pub bytes_of_number : (bs : List ℕ) → AllBelow 256 bs → bytes (length bs) (number bs) ≡ bs
unfolding bytes number
bytes_of_number [] below = refl
bytes_of_number (b ∷ bs) below = ap₂ {C = List ℕ} ◌∷◌ (omega arith) (ap (bytes (length bs)) (omega arith) ∙ bytes_of_number bs below.1)

bytes_of_taken : (w : ℕ) (bs : List ℕ) → AllBelow 256 bs → w ≤ length bs → bytes w (number (take w bs)) ≡ take w bs
bytes_of_taken w bs below l =
    ap (λ (n : ℕ). bytes n (number (take w bs))) (sym (length-take-le w bs l)) ∙ bytes_of_number (take w bs) (take_below 256 w bs below)

-- ---- several numbers

-- Numbers of w bytes each have w bytes for each number.
pub all_bytes_length : (w : ℕ) (xs : List ℕ) → length (all_bytes w xs) ≡ length xs * w
unfolding all_bytes
all_bytes_length w [] = omega arith
all_bytes_length w (x ∷ xs) = omega (arith, length-append (bytes w x) (all_bytes w xs), bytes_length w x, all_bytes_length w xs)

-- The bytes of two lists together are theirs, one behind the other.
pub all_bytes_append : (w : ℕ) (xs ys : List ℕ) → all_bytes w (xs ++ ys) ≡ all_bytes w xs ++ all_bytes w ys
unfolding all_bytes
all_bytes_append w [] ys = refl
all_bytes_append w (x ∷ xs) ys = ap (λ (l : List ℕ). bytes w x ++ l) (all_bytes_append w xs ys) ∙ sym (append_assoc (bytes w x) (all_bytes w xs) (all_bytes w ys))

-- As many numbers are read as asked for.
pub all_numbers_length : (w n : ℕ) (bs : List ℕ) → length (all_numbers w n bs) ≡ n
unfolding all_numbers
all_numbers_length w zero bs = refl
all_numbers_length w (suc n) bs = ap suc (all_numbers_length w n (drop w bs))

-- Number i is said by the w bytes from byte i * w on.
pub all_numbers_at : (w n : ℕ) (bs : List ℕ) (i : ℕ) → i < n → get_or (all_numbers w n bs) i 0 ≡ number (take w (drop (i * w) bs))
unfolding all_numbers
all_numbers_at w zero bs i l = absurd (omega arith)
all_numbers_at w (suc n) bs zero l = ap (λ (k : ℕ). number (take w (drop k bs))) (sym (zero-mul w))
all_numbers_at w (suc n) bs (suc i) l =
    all_numbers_at w n (drop w bs) i (omega arith) ∙ ap (λ (l : List ℕ). number (take w l)) (drop-drop (i * w) w bs)
    ∙ ap (λ (k : ℕ). number (take w (drop k bs))) next
  where
    next : w + i * w ≡ suc i * w
    next = omega arith

-- Numbers that fit their bytes are read from them again.
pub numbers_of_bytes : (w m : ℕ) → m ≤ 256 ^ w → (xs : List ℕ) → AllBelow m xs → all_numbers w (length xs) (all_bytes w xs) ≡ xs
unfolding all_bytes all_numbers
numbers_of_bytes w m u [] below = refl
numbers_of_bytes w m u (x ∷ xs) below =
    ap₂ {C = List ℕ} ◌∷◌ (ap number (take_at (bytes w x) (all_bytes w xs) w (bytes_length w x)) ∙ number_of_bytes w x (omega arith))
    (ap (all_numbers w (length xs)) (drop_at (bytes w x) (all_bytes w xs) w (bytes_length w x)) ∙ numbers_of_bytes w m u xs below.1)

-- The numbers that bytes say are written as those bytes.
pub bytes_of_numbers : (w n : ℕ) (bs : List ℕ) → AllBelow 256 bs → n * w ≤ length bs → all_bytes w (all_numbers w n bs) ≡ take (n * w) bs
unfolding all_bytes all_numbers
bytes_of_numbers w zero bs below l = ap (λ (k : ℕ). take k bs) (sym (zero-mul w))
bytes_of_numbers w (suc n) bs below l =
    ap₂ {C = List ℕ} ◌++◌ (bytes_of_taken w bs below (omega arith))
    (bytes_of_numbers w n (drop w bs) (drop_below 256 w bs below) (omega (arith, length-drop w bs)))
    ∙ sym (take-add w (n * w) bs) ∙ ap (λ (k : ℕ). take k bs) sum
  where
    sum : w + n * w ≡ suc n * w
    sum = omega arith

-- ---- a sketch written and read again

-- A packet is as long as its sums say.
pub packet_length_lem : (K : Kind) (count x : ℕ) (sums : List ℕ) → length (packet K count x sums) ≡ packet_length K (length sums)
unfolding packet
packet_length_lem K count x sums =
    omega (
      arith,
      length-append (bytes count_bytes count) (bytes K.code_bytes x ++ all_bytes K.code_bytes sums),
      bytes_length count_bytes count,
      length-append (bytes K.code_bytes x) (all_bytes K.code_bytes sums),
      bytes_length K.code_bytes x,
      all_bytes_length K.code_bytes sums,
    )

-- With m sums of a well-formed sketch it is as long as m says.
pub packet_length_within : (K : Kind) (s : Sketch) → WellFormed K s → (x m : ℕ) → m ≤ s.threshold
    → length (packet K s.count x (take m s.sums)) ≡ packet_length K m
packet_length_within K s w x m l =
    packet_length_lem K s.count x (take m s.sums) ∙ ap (packet_length K) (length-take-le m s.sums (omega arith))

module _ (K : Kind) (s : Sketch) (w : WellFormed K s) (x : ℕ) (last : s.last ≡ code x) (m : ℕ) where
  -- The packet with the first m sums, and how long it is.
  abbrev whole : List ℕ
  whole = packet K s.count x (take m s.sums)

  whole_length : length whole ≡ packet_length K (length (take m s.sums))
  whole_length = packet_length_lem K s.count x (take m s.sums)

  last_below : x < K.modulus
  last_below = ltb-true x K.modulus (ap (last_fits K) (sym last) ∙ w.last_fits)

  sums_there : sums_in K (length whole) ≡ length (take m s.sums)
  sums_there = ap (λ (z : ℕ). z / K.code_bytes) size ∙ mul-div_cancel (length (take m s.sums)) K.some_byte
    where
      size : length whole - sums_at K ≡ length (take m s.sums) * K.code_bytes
      size = omega (arith, whole_length)

  behind_count : drop count_bytes whole ≡ bytes K.code_bytes x ++ all_bytes K.code_bytes (take m s.sums)
  unfolding packet
  behind_count =
      drop_at (bytes count_bytes s.count) (bytes K.code_bytes x ++ all_bytes K.code_bytes (take m s.sums)) count_bytes
      (bytes_length count_bytes s.count)

  behind_last : drop (sums_at K) whole ≡ all_bytes K.code_bytes (take m s.sums)
  behind_last =
      sym (drop-drop K.code_bytes count_bytes whole) ∙ ap (drop K.code_bytes) behind_count
      ∙ drop_at (bytes K.code_bytes x) (all_bytes K.code_bytes (take m s.sums)) K.code_bytes (bytes_length K.code_bytes x)

  same_threshold : sums_in K (length whole) ≡ min s.threshold m
  same_threshold = sums_there ∙ omega (arith, length-take m s.sums)

  same_sums : sums_of K whole ≡ take m s.sums
  same_sums =
      ap₂ (all_numbers K.code_bytes) sums_there behind_last
      ∙ numbers_of_bytes K.code_bytes K.modulus K.fits (take m s.sums) (take_below K.modulus m s.sums w.sums_below)

  same_count : number (take count_bytes whole) ≡ s.count
  unfolding packet
  same_count =
      ap number (take_at (bytes count_bytes s.count) (bytes K.code_bytes x ++ all_bytes K.code_bytes (take m s.sums)) count_bytes
      (bytes_length count_bytes s.count))
      ∙ number_of_bytes count_bytes s.count w.count_below

  same_last : code (residue K (number (take K.code_bytes (drop count_bytes whole)))) ≡ s.last
  same_last =
      ap {B = Last} code
      (ap (λ (l : List ℕ). residue K (number (take K.code_bytes l))) behind_count
      ∙ ap (λ (l : List ℕ). residue K (number l))
      (take_at (bytes K.code_bytes x) (all_bytes K.code_bytes (take m s.sums)) K.code_bytes (bytes_length K.code_bytes x))
      ∙ ap (residue K) (number_of_bytes K.code_bytes x (omega (arith, last_below, K.fits))) ∙ mod-eq_of_lt last_below)
      ∙ sym last

  -- The packet of a well-formed sketch with its first m sums says the sketch cut to them.
  pub read_of_written : sketch_in K whole ≡ cut s m
  unfolding sketch_in cut
  read_of_written = λ i. record { threshold = same_threshold i; sums = same_sums i; count = same_count i; last = same_last i }

  -- With at least one sum it is read without a refusal.
  pub read_back : 1 ≤ m → read K whole ≡ given (cut s m)
  unfolding read
  read_back l =
      rw (
        le-leb (sums_at K) (length whole) (omega (arith, whole_length)),
        le-leb 1 (sums_in K (length whole)) (omega (arith, same_threshold)),
        le-leb (sums_in K (length whole)) K.greatest (omega (arith, same_threshold)),
        below_every K.modulus 0 (sums_of K whole) (subst (AllBelow K.modulus) (sym same_sums) (take_below K.modulus m s.sums w.sums_below)),
        read_of_written,
      )

-- ---- the calls that write

-- What is given passes the test, and what comes next gives it.
pub passed : {A : Type 0} (ok : Bool) (n : ℕ) (next : Outcome A) (a : A) → unless ok n next ≡ given a → (ok ≡ true) × (next ≡ given a)
passed true n next a e = (refl, e)
passed false n next a e = absurd (let z : ◌≡◌ {A = ℕ} 0 1 = cc in omega arith)

fitting_given : (l : List ℕ) (room : ℕ) (bs : List ℕ) → fitting l room ≡ given bs → bs ≡ l
fitting_given l room bs e = let there = (passed (leb (length l) room) 5 (given l) bs e).1 in cc

-- A packet that is given is the sketch's, with a last code.
packed_given : (K : Kind) (s : Sketch) (m room : ℕ) (bs : List ℕ) (last : Last) → packed K s last m room ≡ given bs
    → (x : ℕ) × ((last ≡ code x) × (bs ≡ packet K s.count x (take m s.sums)))
packed_given K s m room bs nothing e = absurd (let z : ◌≡◌ {A = ℕ} 0 1 = cc in omega arith)
packed_given K s m room bs (code x) e = (x, (refl, fitting_given (packet K s.count x (take m s.sums)) room bs e))

module _ (K : Kind) (s : Sketch) (w : WellFormed K s) where
  cut_within : (m : ℕ) → cut s (min s.threshold m) ≡ cut s m
  unfolding cut
  cut_within m = λ i. record { threshold = same i; sums = sums_same (dec_le m s.threshold) i; count = s.count; last = s.last }
    where
      same : min s.threshold (min s.threshold m) ≡ min s.threshold m
      same = omega arith

      sums_same : Dec (m ≤ s.threshold) → take (min s.threshold m) s.sums ≡ take m s.sums
      sums_same (yes l) =
          let least : min s.threshold m ≡ m = omega arith in
          rw least
      sums_same (no l) = take_all (min s.threshold m) s.sums (omega arith) ∙ sym (take_all m s.sums (omega arith))

  cut_to_all : cut s s.threshold ≡ s
  unfolding cut
  cut_to_all = λ i. record { threshold = same i; sums = take_all s.threshold s.sums (omega arith) i; count = s.count; last = s.last }
    where
      same : min s.threshold s.threshold ≡ s.threshold
      same = omega arith

  -- What is written with a hint of at least 1 is read as the sketch cut to it.
  pub hint_read_back : (h room : ℕ) (bs : List ℕ) → 1 ≤ h → write_with_hint K true s h room ≡ given bs → read K bs ≡ given (cut s h)
  unfolding write_with_hint
  hint_read_back h room bs l e =
      let there = packed_given K s (min s.threshold h) room bs s.last e in
      ap (read K) there.1.1 ∙ read_back K s w there.0 there.1.0 (min s.threshold h) (omega arith) ∙ ap {B = Outcome Sketch} given (cut_within h)

  -- What is written without a hint is read as the sketch.
  pub write_read_back : (room : ℕ) (bs : List ℕ) → write K true s room ≡ given bs → read K bs ≡ given s
  unfolding write
  write_read_back room bs e =
      let there = packed_given K s s.threshold room bs s.last e in
      ap (read K) there.1.1 ∙ read_back K s w there.0 there.1.0 s.threshold (omega arith) ∙ ap {B = Outcome Sketch} given cut_to_all

-- ---- an answer without a refusal

fitting_unrefused : (l : List ℕ) (room : ℕ) → refusal_of (fitting l room) ≡ 0 → (bs : List ℕ) × (fitting l room ≡ given bs)
fitting_unrefused l room e = by_test (leb (length l) room) e
  where
    by_test : (fits : Bool) → refusal_of (unless {A = List ℕ} fits 5 (given l)) ≡ 0 → (bs : List ℕ) × (unless fits 5 (given l) ≡ given bs)
    by_test true z = (l, refl)
    by_test false z = absurd (omega arith)

-- A packet that is not refused is given, and there is a last code.
packed_unrefused : (K : Kind) (s : Sketch) (m room : ℕ) (last : Last) → refusal_of (packed K s last m room) ≡ 0
    → HasLast last × ((bs : List ℕ) × (packed K s last m room ≡ given bs))
packed_unrefused K s m room nothing e = absurd (omega arith)
packed_unrefused K s m room (code x) e = (tt, fitting_unrefused (packet K s.count x (take m s.sums)) room e)

module _ (K : Kind) (s : Sketch) (room : ℕ) where
  -- A writing with a hint that is not refused gives bytes, and there is a last code.
  pub hint_unrefused : (h : ℕ) → refusal_of (write_with_hint K true s h room) ≡ 0
      → HasLast s.last × ((bs : List ℕ) × (write_with_hint K true s h room ≡ given bs))
  unfolding write_with_hint
  hint_unrefused h e = packed_unrefused K s (min s.threshold h) room s.last e

-- ---- a packet read and written again

module _ (K : Kind) (bs : List ℕ) (s : Sketch) (e : read K bs ≡ given s) where
  past_6 : (leb (sums_at K) (length bs) ≡ true)
      × (unless (in_range K (sums_in K (length bs))) 7 (unless (every (λ (k s : ℕ). ltb s K.modulus) 0 (sums_of K bs)) 8 (given (sketch_in K bs))) ≡ given s)
  unfolding read
  past_6 = passed _ 6 _ s e

  past_7 : (in_range K (sums_in K (length bs)) ≡ true) × (unless (every (λ (k s : ℕ). ltb s K.modulus) 0 (sums_of K bs)) 8 (given (sketch_in K bs)) ≡ given s)
  past_7 = passed _ 7 _ s past_6.1

  past_8 : (every (λ (k s : ℕ). ltb s K.modulus) 0 (sums_of K bs) ≡ true) × (given (sketch_in K bs) ≡ given s)
  past_8 = passed _ 8 _ s past_7.1

  -- What is read is what the packet says.
  pub read_is_said : s ≡ sketch_in K bs
  read_is_said = let x = past_8.1 in cc

  -- A packet that is read has the bytes of the count and the last code.
  pub read_long : sums_at K ≤ length bs
  read_long = leb-true (sums_at K) (length bs) past_6.0

  said_count : s.count ≡ number (take count_bytes bs)
  unfolding sketch_in
  said_count = ap (λ (s : Sketch). s.count) read_is_said

  said_threshold : s.threshold ≡ sums_in K (length bs)
  unfolding sketch_in
  said_threshold = ap (λ (s : Sketch). s.threshold) read_is_said

  -- Its threshold is in range, and it has as many sums.
  pub read_some : 1 ≤ s.threshold
  read_some = omega (arith, said_threshold, (in_range_parts K (sums_in K (length bs)) past_7.0).0)

  -- Its threshold is at most the greatest.
  pub read_few : s.threshold ≤ K.greatest
  read_few = omega (arith, said_threshold, (in_range_parts K (sums_in K (length bs)) past_7.0).1)

  said_sums : s.sums ≡ sums_of K bs
  unfolding sketch_in
  said_sums = ap (λ (s : Sketch). s.sums) read_is_said

  -- It has as many sums as its threshold says.
  pub read_as_many : length s.sums ≡ s.threshold
  read_as_many = ap length said_sums ∙ all_numbers_length K.code_bytes (sums_in K (length bs)) (drop (sums_at K) bs) ∙ sym said_threshold

  said_last : s.last ≡ code (residue K (number (take K.code_bytes (drop count_bytes bs))))
  unfolding sketch_in
  said_last = ap (λ (s : Sketch). s.last) read_is_said

  -- Its sums are below the prime.
  pub read_sums_below : AllBelow K.modulus s.sums
  read_sums_below = subst (AllBelow K.modulus) (sym said_sums) (every_below K.modulus 0 (sums_of K bs) past_8.0)

  module _ (below : AllBelow 256 bs) where
    -- What is read is well formed.
    pub read_well_formed : WellFormed K s
    read_well_formed =
        record {
          at_least = read_some;
          at_most = read_few;
          as_many = read_as_many;
          sums_below = read_sums_below;
          count_below = subst (λ (n : ℕ). n < counts) (sym said_count) count_fits;
          last_fits = ap (last_fits K) said_last ∙ lt-ltb _ _ (residue_below K (number (take K.code_bytes (drop count_bytes bs))));
        }
      where
        count_fits : number (take count_bytes bs) < counts
        count_fits =
            subst (λ (k : ℕ). number (take count_bytes bs) < 256 ^ k) (length-take-le count_bytes bs (omega (arith, read_long)))
            (number_below (take count_bytes bs) (take_below 256 count_bytes bs below))

    -- Written again with all its sums, it gives the packet's first bytes, as many as the sums say, with the last code reduced.
    pub written_again : (x : ℕ) → s.last ≡ code x
        → packet K s.count x (take s.threshold s.sums)
        ≡ take count_bytes bs ++ (bytes K.code_bytes (residue K (number (take K.code_bytes (drop count_bytes bs)))) ++ take (s.threshold * K.code_bytes)
        (drop (sums_at K) bs))
    unfolding packet
    written_again x last =
        ap₂ {C = List ℕ} ◌++◌ (ap (bytes count_bytes) said_count ∙ bytes_of_taken count_bytes bs below (omega (arith, read_long)))
        (ap₂ {C = List ℕ} ◌++◌ (ap (bytes K.code_bytes) same_code)
        (ap (all_bytes K.code_bytes) (take_all s.threshold s.sums (omega (arith, read_well_formed.as_many)) ∙ said_sums)
        ∙ bytes_of_numbers K.code_bytes (sums_in K (length bs)) (drop (sums_at K) bs) (drop_below 256 (sums_at K) bs below) room
        ∙ ap (λ (n : ℕ). take (n * K.code_bytes) (drop (sums_at K) bs)) (sym said_threshold)))
      where
        same_code : x ≡ residue K (number (take K.code_bytes (drop count_bytes bs)))
        same_code = let y = said_last in cc

        room : sums_in K (length bs) * K.code_bytes ≤ length (drop (sums_at K) bs)
        room = omega (arith, length-drop (sums_at K) bs, div-add-mod' (length bs - sums_at K) K.code_bytes)

    -- So it is of the bytes that writing gives.
    pub given_again : (room : ℕ) (again : List ℕ) → write K true s room ≡ given again
        → again
        ≡ take count_bytes bs ++ (bytes K.code_bytes (residue K (number (take K.code_bytes (drop count_bytes bs)))) ++ take (s.threshold * K.code_bytes)
        (drop (sums_at K) bs))
    unfolding write
    given_again room again e =
        let there = packed_given K s s.threshold room again s.last e in
        there.1.1 ∙ written_again there.0 there.1.0

-- The code that moves bytes: numbers written over the front of a lent list, one after the other, and numbers read into places, at every width of a number;
-- and what writing and reading come to, refusal by refusal. What a loop keeps is a record, so that what it speaks of is found at each use.
-- Assumes nothing.
use Prim.Native.Nat.{ℕ, ◌+◌, ◌-◌, ◌*◌, ◌≤◌, ◌<◌, zero-le, min}
use mathlib.Core.Path.{◌≡◌, refl, sym, ◌∙◌, ap}
use mathlib.Core.Bool.{Bool, true, false}
use mathlib.Core.List.{List, [], ◌++◌, append_assoc, append-nil}
use native.Mathlib.Nat.{zero-mul, le_refl, mod-eq_of_lt}
use native.Mathlib.Numerals.{add-one}
use native.Mathlib.Omega.{arith}
use lib.Dec.{leb, ltb}
use lib.ListN.{length, get_or, take, drop, length-append, length-drop}
use lib.Seq.{take_all, take-suc, drop-drop, take_at, drop_at, drop-length}
use borrow.Author.Tests.{le-leb, lt-leb, leb-true}
use borrow.Rule.Slice.PartMut.{put_mid}
use Rattle.std.proofs.lemmas.List.{take_rest}
use Rattle.std.proofs.lemmas.Nat.{row_fits}
use Rattle.numbers.specs.Table.{every}
use Rattle.rules.specs.Kind.{Kind, count_bytes}
use Rattle.rules.specs.Field.{residue}
use Rattle.rules.specs.Sketch.{Sketch, in_range}
use Rattle.rules.specs.Packet.{bytes, all_bytes, sums_at, packet_length, packet, sums_in, sums_of, sketch_in}
use Rattle.rules.specs.Sums.{all_below}
use Rattle.rules.specs.Calls.{Outcome, refused, given, unless, refusal_of, fitting, packed, write_with_hint, read, within, read_for}
use Rattle.rules.proofs.Each.{every_below, at_below}
use Rattle.rules.proofs.Packet.{bytes_length, all_bytes_append, read_few}
use Rattle.rules.proofs.WellFormed.{in_range_parts}

-- ---- writing over the front of a list

-- `out` is `out₀` with p, which is a long, written over its front.
pub record Front (a : ℕ) (p out₀ out : List ℕ) : Type 0 where
  pub size : length p ≡ a
  pub room : a ≤ length out₀
  pub is : out ≡ p ++ drop a out₀

-- The length stays.
pub front_length : {a : ℕ} {p out₀ out : List ℕ} → Front a p out₀ out → length out ≡ length out₀
front_length {a} {p} {out₀} {out} f = ap length f.is ∙ omega (arith, length-append p (drop a out₀), length-drop a out₀, f.size, f.room)

-- The part from a on is lent, and n further bytes b are written over its front.
pub front_more : {a n : ℕ} {p ys out₀ out : List ℕ} (b : List ℕ) → Front a p out₀ out → length b ≡ n → a + n ≤ length out₀
    → ys ≡ b ++ drop n (take (length out - a) (drop a out)) → Front (a + n) (p ++ b) out₀ (put_mid a (length out - a) out ys)
front_more {a} {n} {p} {ys} {out₀} {out} b f l room e =
    let t : take a out ≡ p = ap (λ (z : List ℕ). take a z) f.is ∙ take_at p (drop a out₀) a f.size in
    let d : drop a out ≡ drop a out₀ = ap (λ (z : List ℕ). drop a z) f.is ∙ drop_at p (drop a out₀) a f.size in
    let s : length (drop a out) ≡ length out - a = length-drop a out in
    let w : take (length out - a) (drop a out) ≡ drop a out = take_rest out a in
    let z : drop (length out - a) (drop a out) ≡ [] = ap (λ (m : ℕ). drop m (drop a out)) (sym s) ∙ drop-length (drop a out) in
    record {
      size = omega (arith, length-append p b, f.size);
      room = room;
      is = rw (e, z, append-nil, w, t, d, drop-drop, append_assoc);
    }

-- A part from a on is lent, and b is written over the whole of it.
pub front_part : {a n m : ℕ} {p ys out₀ out : List ℕ} (b : List ℕ) → Front a p out₀ out → length b ≡ n → m ≡ n → a + n ≤ length out₀ → ys ≡ b
    → Front (a + n) (p ++ b) out₀ (put_mid a m out ys)
front_part {a} {n} {m} {p} {ys} {out₀} {out} b f l em room e =
    let t : take a out ≡ p = ap (λ (z : List ℕ). take a z) f.is ∙ take_at p (drop a out₀) a f.size in
    let d : drop a out ≡ drop a out₀ = ap (λ (z : List ℕ). drop a z) f.is ∙ drop_at p (drop a out₀) a f.size in
    record {
      size = omega (arith, length-append p b, f.size);
      room = room;
      is = rw (e, em, t, d, drop-drop, append_assoc);
    }

-- A packet stands at the front once count, last code and sums are written.
pub front_packet : (K : Kind) (count x : ℕ) (sums : List ℕ) {out₀ out : List ℕ}
    → Front (packet_length K (length sums)) ((bytes count_bytes count ++ bytes K.code_bytes x) ++ all_bytes K.code_bytes sums) out₀ out
    → out ≡ packet K count x sums ++ drop (packet_length K (length sums)) out₀
unfolding packet
front_packet K count x sums {out₀} f =
    f.is ∙ ap (λ (l : List ℕ). l ++ drop (packet_length K (length sums)) out₀)
    (append_assoc (bytes count_bytes count) (bytes K.code_bytes x) (all_bytes K.code_bytes sums))

-- ---- numbers written one after the other

one_more : (w : ℕ) (xs : List ℕ) (k : ℕ) → k < length xs → all_bytes w (take (k + 1) xs) ≡ all_bytes w (take k xs) ++ bytes w (get_or xs k 0)
unfolding all_bytes
one_more w xs k h = rw (add-one, take-suc xs k 0, all_bytes_append, append-nil)

-- After k numbers, their bytes are written over the front.
pub record Putting (w : ℕ) (xs out₀ out : List ℕ) (k : ℕ) : Type 0 where
  pub within : k ≤ length xs
  pub space : length xs * w ≤ length out₀
  pub long : length out ≡ length out₀
  pub so_far : Front (k * w) (all_bytes w (take k xs)) out₀ out

module _ {w : ℕ} {xs out₀ : List ℕ} where
  -- Before the first, the list is as it was.
  pub putting_start : length xs * w ≤ length out₀ → Putting w xs out₀ out₀ 0
  unfolding all_bytes
  putting_start space = record { within = zero-le; space = space; long = refl; so_far = rw zero-mul (record { size = refl; room = zero-le; is = refl }) }

  module _ {out : List ℕ} {k : ℕ} (i : Putting w xs out₀ out k) where
    -- The next number has its place.
    pub putting_room : k < length xs → k * w + w ≤ length out
    putting_room h = omega (arith, row_fits k w (length xs) w h (le_refl w), i.space, i.long)

    -- Its bytes are written over that part.
    pub putting_turn : {x v m : ℕ} {ys : List ℕ} → k < length xs → x ≡ get_or xs k 0 → v ≡ w → m ≡ w → ys ≡ bytes v x
        → Putting w xs out₀ (put_mid (k * w) m out ys) (k + 1)
    putting_turn {x} h e ev em put =
        let one : k * w + w ≡ (k + 1) * w = omega arith in
        let next = front_part (bytes w x) i.so_far (bytes_length w x) em (omega (arith, row_fits k w (length xs) w h (le_refl w), i.space)) (put ∙ rw ev) in
        record {
          within = omega arith;
          space = i.space;
          long = front_length next;
          so_far = rw (← one, one_more w xs k h, ← e) next;
        }

    -- After the last, the bytes of all stand at the front, and what is behind them is as it was.
    pub putting_done : length xs ≤ k → out ≡ all_bytes w xs ++ drop (length xs * w) out₀
    putting_done h =
        let e : k ≡ length xs = omega (arith, i.within) in
        let all : take k xs ≡ xs = take_all k xs h in
        (rw all at i.so_far.is) ∙ ap (λ (n : ℕ). all_bytes w xs ++ drop (n * w) out₀) e

-- ---- places filled one after the other

-- A number of a list that passes the test is its own residue.
pub own_residue : (K : Kind) (l : List ℕ) → every (λ (k s : ℕ). ltb s K.modulus) 0 l ≡ true → (k : ℕ) → k < length l → residue K (get_or l k 0) ≡ get_or l k 0
own_residue K l t k h = mod-eq_of_lt (at_below K.modulus l (every_below K.modulus 0 l t) k h)

-- ---- what writing comes to, refusal by refusal

-- A buffer that is too short.
pub fitting_short : (l : List ℕ) {size room : ℕ} → length l ≡ size → room < size → fitting l room ≡ refused 5
fitting_short l {size} {room} e h = rw (e, lt-leb size room h)

-- Otherwise the list.
pub fitting_given : (l : List ℕ) {size room : ℕ} → length l ≡ size → size ≤ room → fitting l room ≡ given l
fitting_given l {size} {room} e h = rw (e, le-leb size room h)

module _ (K : Kind) (s : Sketch) where
  -- A sketch that is not well formed is not written.
  pub hint_malformed : {ok : Bool} (h room : ℕ) → ok ≡ false → write_with_hint K ok s h room ≡ refused 12
  unfolding write_with_hint
  hint_malformed h room e = rw e

  -- Otherwise as many sums are packed as the smaller of threshold and hint.
  pub hint_packed : {ok : Bool} (h room m : ℕ) → ok ≡ true → m ≡ min s.threshold h → write_with_hint K ok s h room ≡ packed K s s.last m room
  unfolding write_with_hint
  hint_packed h room m e q = rw (e, q)

-- ---- what reading comes to

-- A number other than 0 is that of a refusal.
pub refused_by : {A : Type 0} (o : Outcome A) {n : ℕ} → n ≡ refusal_of o → (n ≡ 0 → ⊥) → o ≡ refused n
refused_by (refused m) e h = ap refused (sym e)
refused_by (given a) e h = absurd (h e)

module _ (K : Kind) (bs : List ℕ) (places : ℕ) where
  -- Not the bytes of a count and a last code.
  pub read_short : length bs < sums_at K → read_for K bs places ≡ refused 6
  unfolding read
  read_short l = rw (lt-leb (sums_at K) (length bs) l)

  module _ (long : sums_at K ≤ length bs) where
    -- No sum.
    pub read_none : sums_in K (length bs) < 1 → read_for K bs places ≡ refused 7
    unfolding read
    read_none l = rw (le-leb (sums_at K) (length bs) long, lt-leb 1 (sums_in K (length bs)) l)

    module _ (some : 1 ≤ sums_in K (length bs)) where
      -- More than the greatest threshold.
      pub read_many : K.greatest < sums_in K (length bs) → read_for K bs places ≡ refused 7
      unfolding read
      read_many l = rw (le-leb (sums_at K) (length bs) long, le-leb 1 (sums_in K (length bs)) some, lt-leb (sums_in K (length bs)) K.greatest l)

      module _ (few : sums_in K (length bs) ≤ K.greatest) where
        -- A sum that is the prime or more.
        pub read_large : all_below K (sums_of K bs) ≡ false → read_for K bs places ≡ refused 8
        unfolding read
        read_large e = rw (le-leb (sums_at K) (length bs) long, le-leb 1 (sums_in K (length bs)) some, le-leb (sums_in K (length bs)) K.greatest few, e)

        module _ (below : all_below K (sums_of K bs) ≡ true) where
          reads : read K bs ≡ given (sketch_in K bs)
          unfolding read
          reads = rw (le-leb (sums_at K) (length bs) long, le-leb 1 (sums_in K (length bs)) some, le-leb (sums_in K (length bs)) K.greatest few, below)

          -- Fewer places than sums.
          pub read_crowded : places < sums_in K (length bs) → read_for K bs places ≡ refused 5
          unfolding sketch_in
          read_crowded l = rw (reads, lt-leb (sums_in K (length bs)) places l)

          -- Otherwise the sketch that the packet says.
          pub read_given : sums_in K (length bs) ≤ places → read_for K bs places ≡ given (sketch_in K bs)
          unfolding sketch_in
          read_given l = rw (reads, le-leb (sums_in K (length bs)) places l)

-- A reading that is not refused: the packet has the bytes of its sums, these are as many as a threshold and fit the places, and what it says is given.
pub record Reads (K : Kind) (bs : List ℕ) (places : ℕ) : Type 0 where
  pub long : sums_at K ≤ length bs
  pub some : 1 ≤ sums_in K (length bs)
  pub few : sums_in K (length bs) ≤ K.greatest
  pub room : sums_in K (length bs) ≤ places
  pub says : read_for K bs places ≡ given (sketch_in K bs)

-- A test that nothing refused passed.
passed_within : (ok : Bool) (n : ℕ) (next : Outcome Sketch) (places : ℕ) → (n ≡ 0 → ⊥) → refusal_of (within (unless ok n next) places) ≡ 0
    → (ok ≡ true) × (refusal_of (within next places) ≡ 0)
passed_within true n next places h e = (refl, e)
passed_within false n next places h e = absurd (h e)

room_within : (s : Sketch) (places : ℕ) → refusal_of (within (given s) places) ≡ 0 → s.threshold ≤ places
room_within s places e = by_test (leb s.threshold places) refl e
  where
    by_test : (b : Bool) → leb s.threshold places ≡ b → refusal_of (unless b 5 (given s)) ≡ 0 → s.threshold ≤ places
    by_test true t e = leb-true s.threshold places t
    by_test false t e = absurd (omega (arith, e))

-- Where a reading has no refusal, the packet passed every test and its sums fit the places.
pub read_unrefused : (K : Kind) (bs : List ℕ) (places : ℕ) → refusal_of (read_for K bs places) ≡ 0 → Reads K bs places
unfolding read sketch_in
read_unrefused K bs places z =
    let past_6 = passed_within (leb (sums_at K) (length bs)) 6 _ places (λ e. omega (arith, e)) z in
    let past_7 = passed_within (in_range K (sums_in K (length bs))) 7 _ places (λ e. omega (arith, e)) past_6.1 in
    let past_8 = passed_within (all_below K (sums_of K bs)) 8 _ places (λ e. omega (arith, e)) past_7.1 in
    let long = leb-true (sums_at K) (length bs) past_6.0 in
    let range = in_range_parts K (sums_in K (length bs)) past_7.0 in
    let room = room_within (sketch_in K bs) places past_8.1 in
    record { long = long; some = range.0; few = range.1; room = room; says = read_given K bs places long range.0 range.1 past_8.0 room }

-- As many places as the greatest threshold are never too few.
pub read_places : (K : Kind) (bs : List ℕ) → read_for K bs K.greatest ≡ read K bs
read_places K bs = by_outcome (read K bs) refl
  where
    by_outcome : (o : Outcome Sketch) → read K bs ≡ o → within o K.greatest ≡ o
    by_outcome (refused n) e = refl
    by_outcome (given s) e = rw (le-leb s.threshold K.greatest (read_few K bs s e))

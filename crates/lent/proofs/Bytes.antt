-- A number written byte by byte, and read byte by byte.
-- Assumes nothing.
use Prim.Native.Nat.{ℕ, suc, ◌+◌, ◌-◌, ◌*◌, ◌/◌, ◌%◌, ◌^◌, ◌≤◌, ◌<◌, zero-le, min}
use mathlib.Core.Path.{◌≡◌, refl, sym, ◌∙◌, ap}
use mathlib.Core.List.{List, [], ◌∷◌, ◌++◌}
use native.Mathlib.Nat.{sub-zero, pow-zero, pow-succ', pow-le-pow_right, mul-le-mul_left}
use native.Mathlib.Numerals.{add-one}
use native.Mathlib.Omega.{arith}
use lib.ListN.{length, get_or, take, drop, set, length-set, length-take, take-append-drop, drop_of_length-le}
use lib.Seq.{drop-cons, take-suc-set, append_snoc, get_or-take}
use Rattle.rules.specs.Packet.{bytes, number}

-- ---- writing

-- After i bytes, those of what is left make the whole.
pub record Filling (x : ℕ) (before now : List ℕ) (rest i : ℕ) : Type 0 where
  pub within : i ≤ length before
  pub long : length now ≡ length before
  pub whole : take i now ++ bytes (length before - i) rest ≡ bytes (length before) x

module _ {x : ℕ} {before : List ℕ} where
  -- At the start no byte is written, and the whole number is left.
  pub filling_start : Filling x before before x 0
  filling_start = record { within = zero-le; long = refl; whole = rw sub-zero }

  -- The lowest byte of what is left, and the rest.
  pub filling_turn : {now : List ℕ} {rest i v next : ℕ} → Filling x before now rest i → i < length before → v ≡ rest % 256 → next ≡ rest / 256
      → Filling x before (set now i v) next (i + 1)
  unfolding bytes
  filling_turn {now} {rest} {i} {v} f h e en =
      let l : i < length now = omega (arith, f.long) in
      let r : length before - i ≡ suc (length before - suc i) = omega arith in
      record {
        within = omega arith;
        long = length-set now i v ∙ f.long;
        whole = rw (add-one, take-suc-set, append_snoc, e, en) (sym (rw r) ∙ f.whole);
      }

  -- After the last the part holds the number.
  pub filling_done : {now : List ℕ} {rest i : ℕ} → Filling x before now rest i → length before ≤ i → now ≡ bytes (length before) x
  unfolding bytes
  filling_done {now} {rest} {i} f h =
      let o : length before - i ≡ 0 = omega arith in
      let all : drop i now ≡ [] = drop_of_length-le now {i = i} (omega (arith, f.long)) in
      sym (take-append-drop i now) ∙ ap (λ (l : List ℕ). take i now ++ l) all ∙ (rw o at f.whole)

-- ---- reading

-- After i of the first eight bytes, their sum and that of the others, weighed, are the number; the weight is kept as long as it fits.
pub record Weighing (part : List ℕ) (end sum weight i : ℕ) : Type 0 where
  pub ends : end ≡ min (length part) 8
  pub within : i ≤ end
  pub small : sum < 256 ^ i
  pub weighs : i < 8 → weight ≡ 256 ^ i
  pub whole : sum + 256 ^ i * number (drop i (take 8 part)) ≡ number (take 8 part)

module _ {part : List ℕ} where
  -- At the start no byte is read: the sum is 0, and the weight 1.
  pub weighing_start : {end : ℕ} → end ≡ min (length part) 8 → Weighing part end 0 1 0
  weighing_start e = record {
    ends = e;
    within = zero-le;
    small = omega (arith, pow-zero 256);
    weighs = λ l. sym (pow-zero 256);
    whole = omega (arith, ap (λ (z : ℕ). z * number (take 8 part)) (pow-zero 256));
  }

  module _ {end sum weight i byte : ℕ} (w : Weighing part end sum weight i) (h : i < end) (e : byte ≡ get_or part i 0) (b : byte < 256) where
    -- The weight is a power of 256, and one byte more than the sum has fits beside it.
    weight_is : weight ≡ 256 ^ i
    weight_is = w.weighs (omega (arith, w.ends))

    -- The sum with the weighed byte has one byte more.
    pub weighing_fits : sum + weight * byte < 256 ^ (i + 1)
    weighing_fits =
        rw (add-one, pow-succ', weight_is)
        (omega (arith, w.small, mul-le-mul_left {m = byte} {n = 255} (256 ^ i) (omega arith)))

    -- So it fits 64 bits, and so does the next weight before the last byte.
    pub weighing_within : sum + weight * byte < 18446744073709551616
    weighing_within = omega (arith, weighing_fits, pow-le-pow_right {n = 256} (omega arith) {i = i + 1} {j = 8} (omega (arith, w.ends)))

    -- The weight after any of the first seven bytes fits 64 bits.
    pub weight_within : i < 7 → weight * 256 < 18446744073709551616
    weight_within u =
        let power : 256 ^ suc i ≡ 256 * 256 ^ i = pow-succ' 256 i in
        omega (arith, power, weight_is, pow-le-pow_right {n = 256} (omega arith) {i = suc i} {j = 7} (omega arith))

    -- One byte more.
    pub weighing_turn : {next : ℕ} → (i < 7 → next ≡ weight * 256) → Weighing part end (sum + weight * byte) next (i + 1)
    unfolding number
    weighing_turn en =
        let l : i < length (take 8 part) = omega (arith, length-take 8 part, w.ends) in
        let here : drop i (take 8 part) ≡ byte ∷ drop (suc i) (take 8 part) =
        drop-cons (take 8 part) i 0 l ∙ ap (λ (x : ℕ). x ∷ drop (suc i) (take 8 part)) (get_or-take 8 part i 0 (omega (arith, w.ends)) ∙ sym e) in
        let whole = rw here at w.whole in
        record {
          ends = w.ends;
          within = omega arith;
          small = weighing_fits;
          weighs = λ u. en (omega arith) ∙ rw (weight_is, add-one, pow-succ') (omega arith);
          whole = rw (add-one, pow-succ', weight_is) (omega (arith, whole));
        }

  -- After the last the sum is the number, and has no more bytes than the part.
  pub weighing_done : {end sum weight i : ℕ} → Weighing part end sum weight i → end ≤ i → (sum ≡ number (take 8 part)) × (sum < 256 ^ length part)
  unfolding number
  weighing_done {sum} {i} w h =
      let none : drop i (take 8 part) ≡ [] = drop_of_length-le (take 8 part) {i = i} (omega (arith, length-take 8 part, w.ends)) in
      let whole = rw none at w.whole in
      (omega (arith, whole), omega (arith, w.small, pow-le-pow_right {n = 256} (omega arith) {i = i} {j = length part} (omega (arith, w.ends, w.within))))

-- The loop that writes what f makes of the first n elements of a list over the front of another.
-- Assumes nothing.
use Prim.Native.Nat.{ℕ, suc, ◌+◌, ◌≤◌, ◌<◌, zero-le}
use mathlib.Core.Path.{◌≡◌, refl, ◌∙◌, ap, ap₂}
use mathlib.Core.List.{List, [], ◌∷◌, ◌++◌, map, map-append, map-id, append_assoc, append-nil}
use native.Mathlib.Numerals.{add-one}
use native.Mathlib.Omega.{arith}
use lib.ListN.{length, get_or, take, drop, set, length-set, length-map}
use lib.Seq.{take-suc, drop-cons, set_at, length-take-le, drop-length}
use Rattle.rules.specs.Sums.{common, copied}

-- After k elements, what f makes of them stands at the front; the rest is as it was.
pub record Mapping {A B : Type 0} (f : A → B) (n : ℕ) (l : List A) (before now : List B) (k : ℕ) : Type 0 where
  pub within : k ≤ n
  pub enough : n ≤ length l
  pub room : n ≤ length before
  pub long : length now ≡ length before
  pub so_far : now ≡ map f (take k l) ++ drop k before

module _ {A B : Type 0} {f : A → B} {n : ℕ} {l : List A} {before : List B} where
  -- At the start nothing is written, and both lists have n elements or more.
  pub mapping_start : n ≤ length l → n ≤ length before → Mapping f n l before before 0
  mapping_start enough room = record { within = zero-le; enough = enough; room = room; long = refl; so_far = refl }

  -- One element more.
  pub mapping_turn : {now : List B} {k : ℕ} {v : B} (d : A) (e : B) → Mapping f n l before now k → k < n → v ≡ f (get_or l k d)
      → Mapping f n l before (set now k v) (k + 1)
  mapping_turn {now} {k} {v} d b i h e =
      let here : k < length l = omega (arith, i.enough) in
      let there : k < length before = omega (arith, i.room) in
      let size : length (map f (take k l)) ≡ k = length-map (take k l) f ∙ length-take-le k l (omega arith) in
      record {
        within = omega arith;
        enough = i.enough;
        room = i.room;
        long = length-set now k v ∙ i.long;
        so_far = rw (
          i.so_far,
          e,
          add-one,
          drop-cons before k b,
          set_at (map f (take k l)) (get_or before k b) (drop (suc k) before) (f (get_or l k d)) k size,
          take-suc l k d,
          map-append,
          append_assoc,
        );
      }

  -- After the last, what f makes of the first n.
  pub mapping_done : {now : List B} {k : ℕ} → Mapping f n l before now k → n ≤ k → now ≡ map f (take n l) ++ drop n before
  mapping_done {k = k} i h =
      let same : k ≡ n = omega (arith, i.within) in
      rw same at i.so_far

-- Elements that are copied.
pub copying_done : {A : Type 0} {n : ℕ} {l before now : List A} {k : ℕ} → Mapping (λ (a : A). a) n l before now k → n ≤ k → now ≡ take n l ++ drop n before
copying_done {A} {n} {l} {before} i h = mapping_done i h ∙ ap (λ (t : List A). t ++ drop n before) (map-id (take n l))

-- A list that has no fewer numbers, over the whole of another.
pub copied_whole : (to from : List ℕ) → length to ≤ length from → copied to from ≡ take (length to) from
copied_whole to from l =
    let all : common to from ≡ length to = omega arith in
    rw (all, drop-length to) (append-nil (take (length to) from))

-- Numbers that are wrapped have themselves for numbers.
pub unwrapped : {A : Type 0} (val : A → ℕ) (wrap : ℕ → A) → ((n : ℕ) → val (wrap n) ≡ n) → (l : List ℕ) → map val (map wrap l) ≡ l
unwrapped val wrap forth [] = refl
unwrapped val wrap forth (n ∷ l) = ap₂ (λ (x : ℕ) (xs : List ℕ). x ∷ xs) (forth n) (unwrapped val wrap forth l)

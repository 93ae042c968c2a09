-- The loops that list the roots of a log: the values of a block of entries side by side, and the entries that pass a test written to the front of a
-- lent buffer.
-- Assumes nothing.
use Prim.Native.Nat.{ℕ, zero, suc, ◌+◌, ◌-◌, ◌*◌, ◌%◌, ◌≤◌, ◌<◌, zero-le, min}
use mathlib.Core.Path.{◌≡◌, refl, sym, ◌∙◌, ap, ap₂}
use mathlib.Core.Bool.{Bool, true, false, cond}
use mathlib.Core.List.{List, [], ◌∷◌, ◌++◌, map, append_assoc, append-nil}
use native.Mathlib.Nat.{add-zero, mod-eq_of_lt}
use native.Mathlib.Numerals.{add-one}
use native.Mathlib.Omega.{arith}
use lib.Dec.{leb, eqb}
use lib.ListN.{length, get_or, take, drop, set, length-append, length-set, length-map}
use lib.Seq.{take-suc, take-add, take_all, drop-cons, drop-drop, get_or-drop, set_at}
use borrow.Author.Tests.{leb-true, leb-false, eq-eqb, ne_eqb}
use borrow.Rule.Slice.PartMut.{put_mid}
use Rattle.newton.specs.Polynomial.{horner, entry}
use Rattle.rules.specs.Kind.{Kind}
use Rattle.rules.specs.Field.{residue, plus}
use Rattle.rules.specs.Sketch.{each}
use Rattle.rules.specs.Decode.{evaluate, keep}
use Rattle.rules.specs.Sums.{roots}
use Rattle.rules.proofs.Field.{plus_reduced}
use Rattle.rules.proofs.Evaluate.{horner_start, horner_turn, horner_done, evaluate_empty}
use Rattle.rules.proofs.Bytes.{Front, front_length, front_more}

-- ---- the values of a block of entries

-- Two functions that agree give the same list.
map_same : (f g : ℕ → ℕ) → ((c : ℕ) → f c ≡ g c) → (l : List ℕ) → map f l ≡ map g l
map_same f g same [] = refl
map_same f g same (c ∷ l) = ap₂ {C = List ℕ} ◌∷◌ (same c) (map_same f g same l)

-- A change of each value beside its entry.
beside : (g : ℕ → ℕ → ℕ) (h : ℕ → ℕ) (l : List ℕ) (k : ℕ) (r : List ℕ) → drop k l ≡ r
    → each (λ (j v : ℕ). g v (get_or l j 0)) k (map h r) ≡ map (λ (c : ℕ). g (h c) c) r
unfolding each
beside g h l k [] e = refl
beside g h l k (c ∷ r) e = ap₂ {C = List ℕ} (λ (x : ℕ) (xs : List ℕ). x ∷ xs) (ap (g (h c)) here) (beside g h l (suc k) r rest)
  where
    here : get_or l k 0 ≡ c
    here = ap (λ (j : ℕ). get_or l j 0) (sym (add-zero k)) ∙ sym (get_or-drop k l 0 0) ∙ ap (λ (z : List ℕ). get_or z 0 0) e

    rest : drop (suc k) l ≡ r
    rest = ap (λ (j : ℕ). drop j l) (sym (add-one k)) ∙ sym (drop-drop 1 k l) ∙ ap (λ (z : List ℕ). drop 1 z) e

-- Horner's value of the first k coefficients at a code.
abbrev pub horner_at : Kind → List ℕ → ℕ → ℕ → ℕ
horner_at K cs k c = horner (entry (1 ∷ cs)) (residue K c) k % K.modulus

-- With the first k coefficients, each value is Horner's at its entry.
pub record Valuing (K : Kind) (cs log values : List ℕ) (k : ℕ) : Type 0 where
  pub within : k ≤ length cs
  pub values_are : values ≡ map (horner_at K cs k) log

module _ (K : Kind) (cs log : List ℕ) where
  -- The entry and the first coefficient: a step without a multiplication.
  pub valuing_start : {values : List ℕ} → 1 ≤ length cs → values ≡ map (λ (c : ℕ). plus K c (get_or cs 0 0)) log → Valuing K cs log values 1
  valuing_start l e = record { within = l; values_are = e ∙ map_same _ _ (λ c. (horner_start K cs c l (sym (plus_reduced K c (get_or cs 0 0)))).value) log }

  -- One coefficient more.
  pub valuing_turn : {values next : List ℕ} {k : ℕ} → Valuing K cs log values k → k < length cs
      → next ≡ each (λ (j v : ℕ). plus K (v * get_or log j 0) (get_or cs k 0)) 0 values → Valuing K cs log next (k + 1)
  valuing_turn {values} {next} {k} i l e = record {
    within = omega arith;
    values_are =
        e ∙ rw i.values_are (beside (λ (v c : ℕ). plus K (v * c) (get_or cs k 0)) (horner_at K cs k) log 0 log refl)
        ∙ map_same _ _ (λ c. (horner_turn K cs c (record { within = i.within; value = refl }) l refl).value) log;
  }

  -- With the last, the values are those of the coefficients.
  pub valuing_done : {values : List ℕ} {k : ℕ} → Valuing K cs log values k → length cs ≤ k → values ≡ map (evaluate K cs) log
  valuing_done i l = i.values_are ∙ map_same _ _ (λ c. horner_done K cs c (record { within = i.within; value = refl }) l) log

  -- There are as many as entries.
  pub valuing_length : {values : List ℕ} {k : ℕ} → Valuing K cs log values k → length values ≡ length log
  valuing_length {k = k} i = ap length i.values_are ∙ length-map log (horner_at K cs k)

-- ---- the entries that pass a test

module _ (test : ℕ → Bool) where
  -- What is kept of two lists one after the other.
  pub keep_append : (xs ys : List ℕ) → keep test (xs ++ ys) ≡ keep test xs ++ keep test ys
  keep_append [] ys = refl
  keep_append (x ∷ xs) ys = by_test (test x) (keep_append xs ys)
    where
      by_test : (b : Bool) → keep test (xs ++ ys) ≡ keep test xs ++ keep test ys
          → cond b (x ∷ keep test (xs ++ ys)) (keep test (xs ++ ys)) ≡ cond b (x ∷ keep test xs) (keep test xs) ++ keep test ys
      by_test true e = ap {B = List ℕ} (λ l. x ∷ l) e
      by_test false e = e

  -- Where every entry fails, none is kept.
  pub keep_none : ((c : ℕ) → test c ≡ false) → (xs : List ℕ) → keep test xs ≡ []
  keep_none fails [] = refl
  keep_none fails (x ∷ xs) = rw (fails x) (keep_none fails xs)

  -- One entry more, which passes or fails.
  keep_passing : (xs : List ℕ) (i : ℕ) → i < length xs → test (get_or xs i 0) ≡ true → keep test (take (i + 1) xs) ≡ keep test (take i xs) ++ (get_or xs i 0 ∷ [])
  keep_passing xs i l t = rw (add-one, take-suc xs i 0, keep_append, t)

  keep_failing : (xs : List ℕ) (i : ℕ) → i < length xs → test (get_or xs i 0) ≡ false → keep test (take (i + 1) xs) ≡ keep test (take i xs)
  keep_failing xs i l t = rw (add-one, take-suc xs i 0, keep_append, t, append-nil)

-- Of the first i entries of the log, the n that pass stand at the front of the buffer; the rest of it is as it was.
pub record Listing (test : ℕ → Bool) (log before now : List ℕ) (n i : ℕ) : Type 0 where
  pub within : i ≤ length log
  pub fewer : n ≤ i
  pub room : i ≤ length before
  pub long : length now ≡ length before
  pub many : length (keep test (take i log)) ≡ n
  pub front : now ≡ keep test (take i log) ++ drop n before

module _ {test : ℕ → Bool} {log before : List ℕ} where
  -- Before the first entry.
  pub listing_start : Listing test log before before 0 0
  listing_start = record { within = zero-le; fewer = zero-le; room = zero-le; long = refl; many = refl; front = refl }

  module _ {now : List ℕ} {n i : ℕ} (k : Listing test log before now n i) where
    module _ (l : i < length log) (room : i < length before) where
      -- An entry that passes is stored.
      pub listing_passing : test (get_or log i 0) ≡ true → Listing test log before (set now n (get_or log i 0)) (n + 1) (i + 1)
      listing_passing t =
          let one_more = keep_passing test log i l t in
          let here : n < length before = omega (arith, k.fewer) in
          record {
            within = omega arith;
            fewer = omega (arith, k.fewer);
            room = omega arith;
            long = length-set now n (get_or log i 0) ∙ k.long;
            many = rw (one_more, length-append) (omega (arith, k.many));
            front = rw (
              one_more,
              k.front,
              add-one,
              drop-cons before n 0,
              set_at (keep test (take i log)) (get_or before n 0) (drop (suc n) before) (get_or log i 0) n k.many,
              append_assoc,
            );
          }

      -- An entry that fails leaves the buffer as it is.
      pub listing_failing : test (get_or log i 0) ≡ false → Listing test log before now n (i + 1)
      listing_failing t =
          let none_more = keep_failing test log i l t in
          record {
            within = omega arith;
            fewer = omega (arith, k.fewer);
            room = omega arith;
            long = k.long;
            many = rw none_more k.many;
            front = rw none_more k.front;
          }

    -- A block of m entries, of which r pass: they are written over the front of what stands behind the first n.
    pub listing_block : {m r : ℕ} {part : List ℕ} → i + m ≤ length log → i + m ≤ length before → r ≤ m → r ≡ length (keep test (take m (drop i log)))
        → part ≡ keep test (take m (drop i log)) ++ drop r (take (length now - n) (drop n now))
        → Listing test log before (put_mid n (length now - n) now part) (n + r) (i + m)
    listing_block {m} {r} {part} l room few e written =
        let more : keep test (take (i + m) log) ≡ keep test (take i log) ++ keep test (take m (drop i log)) = rw (take-add, keep_append) in
        let next = front_more (keep test (take m (drop i log))) front_now (sym e) (omega (arith, k.fewer)) written in
        record {
          within = l;
          fewer = omega (arith, k.fewer);
          room = room;
          long = front_length next;
          many = rw (more, length-append) (omega (arith, k.many, e));
          front = rw more next.is;
        }
      where
        front_now : Front n (keep test (take i log)) before now
        front_now = record { size = k.many; room = omega (arith, k.fewer, k.room); is = k.front }

-- A whole log is listed: its entries that pass stand at the front, and r says how many.
pub record Listed (test : ℕ → Bool) (log before after : List ℕ) (r : ℕ) : Type 0 where
  pub many : r ≡ length (keep test log)
  pub front : after ≡ keep test log ++ drop r before

-- So it is after the last entry.
pub listing_done : {test : ℕ → Bool} {log before now : List ℕ} {n i : ℕ} → Listing test log before now n i → length log ≤ i → Listed test log before now n
listing_done {log = log} {i = i} k l =
    let whole : take i log ≡ log = take_all i log l in
    record { many = sym (rw whole at k.many); front = rw whole at k.front }

-- As many of a list as it has, at most n, are its first n.
pub take_within : (l : List ℕ) (n i : ℕ) → i ≡ min (length l) n → take i l ≡ take n l
take_within l n i e = by_test (leb n (length l)) refl
  where
    by_test : (b : Bool) → leb n (length l) ≡ b → take i l ≡ take n l
    by_test true t =
        let same : i ≡ n = omega (arith, leb-true n (length l) t) in
        rw same
    by_test false t = let more = leb-false n (length l) t in take_all i l (omega arith) ∙ sym (take_all n l (omega arith))

-- Without a coefficient no entry is a root: the value is 1.
pub no_roots : (K : Kind) (cs log : List ℕ) → length cs ≡ 0 → roots K cs log ≡ []
no_roots K cs log e =
    keep_none _ (λ c. ne_eqb (evaluate K cs c) 0 (λ z. let one : residue K 1 ≡ 1 =
    mod-eq_of_lt K.prime.above_one in omega
    (arith, one, evaluate_empty K cs c e)))
    log

-- ---- the entries of a block whose value is 0

at_map : (f : ℕ → ℕ) (l : List ℕ) (j : ℕ) → j < length l → get_or (map f l) j 0 ≡ f (get_or l j 0)
at_map f [] j h = absurd (omega arith)
at_map f (c ∷ l) zero h = refl
at_map f (c ∷ l) (suc j) h = at_map f l j (omega arith)

-- After j entries, whatever function their values are of: those at which it is 0 are listed.
pub record Zeroing (log values before now : List ℕ) (n j : ℕ) : Type 0 where
  pub within : j ≤ length log
  pub fewer : n ≤ j
  pub long : length now ≡ length before
  pub room : length log ≤ length before
  pub beside_log : length values ≡ length log
  pub listing : (f : ℕ → ℕ) → values ≡ map f log → Listing (λ (c : ℕ). eqb (f c) 0) log before now n j

module _ {log values before : List ℕ} where
  -- At the start nothing is listed; each entry has a value, and there is room for all.
  pub zeroing_start : length values ≡ length log → length log ≤ length before → Zeroing log values before before 0 0
  zeroing_start e l = record { within = zero-le; fewer = zero-le; long = refl; room = l; beside_log = e; listing = λ f _. listing_start }

  module _ {now : List ℕ} {n j : ℕ} (z : Zeroing log values before now n j) (l : j < length log) where
    value_of : (f : ℕ → ℕ) → values ≡ map f log → get_or values j 0 ≡ f (get_or log j 0)
    value_of f e = ap (λ (vs : List ℕ). get_or vs j 0) e ∙ at_map f log j l

    -- An entry whose value is 0 is stored, and any other is passed over.
    pub zeroing_passing : get_or values j 0 ≡ 0 → Zeroing log values before (set now n (get_or log j 0)) (n + 1) (j + 1)
    zeroing_passing t = record {
      within = omega arith;
      fewer = omega (arith, z.fewer);
      long = length-set now n (get_or log j 0) ∙ z.long;
      room = z.room;
      beside_log = z.beside_log;
      listing = λ f e. listing_passing (z.listing f e) l (omega (arith, z.room)) (eq-eqb (f (get_or log j 0)) 0 (sym (value_of f e) ∙ t));
    }

    -- An entry whose value is not 0 is passed over.
    pub zeroing_failing : (get_or values j 0 ≡ 0 → ⊥) → Zeroing log values before now n (j + 1)
    zeroing_failing t = record {
      within = omega arith;
      fewer = omega (arith, z.fewer);
      long = z.long;
      room = z.room;
      beside_log = z.beside_log;
      listing = λ f e. listing_failing (z.listing f e) l (omega (arith, z.room)) (ne_eqb (f (get_or log j 0)) 0 (λ u. t (value_of f e ∙ u)));
    }

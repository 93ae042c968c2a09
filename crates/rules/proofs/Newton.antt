-- The loops that make the coefficients: the sum that a coefficient takes, and the coefficients one after the other in a lent buffer.
-- Assumes nothing.
use Prim.Native.Nat.{ℕ, zero, suc, ◌+◌, ◌-◌, ◌*◌, ◌%◌, ◌≤◌, ◌<◌, zero-le}
use mathlib.Core.Path.{◌≡◌, refl, sym, ◌∙◌, ap, ap₂}
use mathlib.Core.List.{List, ◌++◌, append_assoc, append-nil}
use native.Mathlib.Nat.{mod-mod, zero-mod}
use native.Mathlib.Numerals.{add-one}
use native.Mathlib.Omega.{arith}
use lib.ListN.{length, get_or, take, drop, set, length-set, drop_of_length-le}
use lib.Seq.{take-suc, take_all, take_at, length-take-le, drop-cons, set_at, drop-set-lt, get_or-take}
use Rattle.numbers.proofs.Binomial.{sum_to}
use Rattle.numbers.proofs.Congruence.{add_congruent}
use Rattle.rules.specs.Kind.{Kind}
use Rattle.rules.specs.Field.{plus, minus, negative, times, inverse}
use Rattle.rules.specs.Decode.{newest_first, coefficients}
use Rattle.rules.specs.Sums.{common}
use Rattle.rules.proofs.Field.{minus_reduced}
use Rattle.rules.proofs.Recurrence.{coefficients_length, coefficient_at, first_coefficient}

-- ---- a sum of products, modulo the prime

-- After j terms of i, the result is their sum.
pub record Summing (K : Kind) (f : ℕ → ℕ) (i result j : ℕ) : Type 0 where
  pub within : j ≤ i
  pub value : result ≡ sum_to f j % K.modulus

module _ (K : Kind) {f : ℕ → ℕ} {i : ℕ} where
  -- The sum of no term is 0.
  pub summing_start : Summing K f i 0 0
  summing_start = record { within = zero-le; value = sym (zero-mod K.modulus) }

  -- One product more.
  pub summing_turn : {result r j : ℕ} (a b : ℕ) → Summing K f i result j → j < i → f j ≡ a * b → r ≡ plus K result (times K a b) → Summing K f i r (j + 1)
  summing_turn {result} {r} {j} a b s l e u = record {
    within = omega arith;
    value = rw add-one (u ∙ add_congruent K.modulus result (sum_to f j) (times K a b) (f j)
        (ap (λ (z : ℕ). z % K.modulus) s.value ∙ mod-mod (sum_to f j) K.modulus)
        (mod-mod (a * b) K.modulus ∙ ap (λ (z : ℕ). z % K.modulus) (sym e)));
  }

  -- With the last it is the sum.
  pub summing_done : {result j : ℕ} → Summing K f i result j → i ≤ j → result ≡ sum_to f i % K.modulus
  summing_done {result} {j} s l =
      let e : j ≡ i = omega arith in
      s.value ∙ ap (λ (n : ℕ). sum_to f n % K.modulus) e

-- Two sums are equal where their terms are.
sum_agrees : (f g : ℕ → ℕ) (n : ℕ) → ((k : ℕ) → k < n → f k ≡ g k) → sum_to f n ≡ sum_to g n
sum_agrees f g zero same = refl
sum_agrees f g (suc n) same = ap₂ ◌+◌ (sum_agrees f g n (λ k l. same k (omega arith))) (same n (omega arith))

-- ---- the coefficients one after the other

-- The first i of n coefficients stand at the front of the buffer; the rest of it is as it was.
pub record Solving (K : Kind) (sums : List ℕ) (n : ℕ) (before now : List ℕ) (i : ℕ) : Type 0 where
  pub within : i ≤ n
  pub room : n ≤ length before
  pub long : length now ≡ length before
  pub front : now ≡ take i (coefficients K sums n) ++ drop i before

module _ (K : Kind) {sums : List ℕ} {n : ℕ} {before : List ℕ} where
  -- Where the first i stand, the next one is stored.
  stored : {now : List ℕ} {i v : ℕ} → Solving K sums n before now i → i < n → v ≡ get_or (coefficients K sums n) i 0
      → Solving K sums n before (set now i v) (i + 1)
  stored {now} {i} {v} s l e =
      let cs = coefficients K sums n in
      let many = coefficients_length K sums n in
      let more : i < length cs = omega arith in
      let here : i < length before = omega (arith, s.room) in
      let past = length-take-le i cs (omega arith) in
      record {
        within = omega arith;
        room = s.room;
        long = length-set now i v ∙ s.long;
        front =
            rw (
              s.front,
              e,
              add-one,
              drop-cons before i 0,
              set_at (take i cs) (get_or before i 0) (drop (suc i) before)
                  (get_or cs i 0) i past,
              take-suc cs i 0,
              append_assoc,
            );
      }

  module _ {now : List ℕ} {i : ℕ} (s : Solving K sums n before now i) (l : i < n) where
    -- What stands in the buffer is the first i coefficients.
    front_is : take i now ≡ take i (coefficients K sums n)
    front_is =
        let many = coefficients_length K sums n in
        rw s.front (take_at (take i (coefficients K sums n)) (drop i before) i (length-take-le i (coefficients K sums n) (omega arith)))

    -- The next one, from the sum of the products of the sums before it and the coefficients that stand in the buffer.
    pub solving_turn : {v lower : ℕ} → lower ≡ sum_to (λ (j : ℕ). get_or sums j 0 * get_or (take i now) (i - j - 1) 0) i % K.modulus
        → v ≡ times K (minus K (negative K lower) (get_or sums i 0)) (inverse K (i + 1)) → Solving K sums n before (set now i v) (i + 1)
    solving_turn {v} {lower} el e =
        stored s l (e ∙ ap (λ (x : ℕ). times K (minus K x (get_or sums i 0)) (inverse K (i + 1))) below ∙ sym (coefficient_at K sums n i l))
      where
        below : negative K lower ≡ negative K (sum_to (λ (j : ℕ). get_or sums j 0 * get_or (coefficients K sums n) (i - j - 1) 0) i)
        below =
            ap (negative K) el ∙ minus_reduced K 0 _
            ∙ ap (negative K) (sum_agrees _ _ i
            (λ j u. ap (λ (x : ℕ). get_or sums j 0 * x) (rw front_is (get_or-take i (coefficients K sums n) (i - j - 1) 0 (omega arith)))))

-- The first coefficient is the negative of the first sum; what the buffer holds with it is what later places are compared with.
pub solving_start : (K : Kind) {sums : List ℕ} {n v : ℕ} (before : List ℕ) → 1 ≤ n → n ≤ length before → v ≡ negative K (get_or sums 0 0)
    → Solving K sums n (set before 0 v) (set before 0 v) 1
solving_start K {sums} {n} {v} before l room e =
    let first = stored K {before = before} {now = before} {i = 0} (record { within = zero-le; room = room; long = refl; front = refl }) l
    (e ∙ sym (first_coefficient K sums n l)) in
    record {
      within = l;
      room = rw length-set room;
      long = refl;
      front = first.front ∙ rw (drop-set-lt 1 before 0 v (omega arith));
    }

-- With the last one they all stand there.
pub solving_done : (K : Kind) {sums : List ℕ} {n i : ℕ} {now : List ℕ} (before : List ℕ) (v : ℕ) → Solving K sums n (set before 0 v) now i → 1 ≤ n → n ≤ i
    → now ≡ coefficients K sums n ++ drop n before
solving_done K {sums} {n} {i} before v s l u =
    let many = coefficients_length K sums n in
    let e : i ≡ n = omega (arith, s.within) in
    s.front ∙ rw (e, take_all n (coefficients K sums n) (omega arith), drop-set-lt n before 0 v l)

-- There are no coefficients where n is 0.
pub solving_none : (K : Kind) (sums : List ℕ) (before : List ℕ) (n : ℕ) → n ≡ 0 → before ≡ coefficients K sums n ++ drop n before
unfolding coefficients newest_first
solving_none K sums before n e = rw e

-- Coefficients over the whole of a part of n places, where there are as many sums.
pub coefficients_over_part : (K : Kind) (sums part : List ℕ) (n : ℕ) {after : List ℕ} → length part ≡ n → n ≤ length sums
    → after ≡ coefficients K sums (common sums part) ++ drop (common sums part) part → after ≡ coefficients K sums n
coefficients_over_part K sums part n long enough e =
    let all : common sums part ≡ n = omega arith in
    e ∙ rw (all, drop_of_length-le part {i = n} (omega arith)) (append-nil (coefficients K sums n))

-- Loops that change the first numbers of a list, each told its place; and the loop that moves sum k by the k-th power of a residue.
-- Assumes nothing.
use Prim.Native.Nat.{ℕ, suc, ◌+◌, ◌-◌, ◌*◌, ◌%◌, ◌^◌, ◌≤◌, ◌<◌, min, zero-le}
use mathlib.Core.Path.{◌≡◌, refl, sym, ◌∙◌, ap}
use mathlib.Core.Bool.{Bool, true, false, cond}
use mathlib.Core.List.{List, ◌++◌, append-nil}
use native.Mathlib.Nat.{sub-zero, zero-add, zero-mul, zero-mod, mod-mod, mod-eq_of_lt, add_comm, add-mul}
use native.Mathlib.Numerals.{add-one}
use native.Mathlib.Omega.{arith}
use lib.ListN.{length, get_or, take, drop, set, length-set, length-take, take-append-drop, drop_of_length-le}
use lib.Seq.{drop-cons, take-suc-set, drop-set-lt, append_snoc, take_all, length-take-le, get_or-take, take-take}
use lib.Pow.{pow-add}
use Rattle.numbers.proofs.Congruence.{add_congruent, mul_congruent, cancel_add}
use Rattle.numbers.proofs.Power.{pow_one}
use Rattle.rules.specs.Kind.{Kind}
use Rattle.rules.specs.Field.{plus, minus, negative, times}
use Rattle.rules.specs.Sketch.{each}
use Rattle.rules.specs.Sums.{common, differences, signed, moved, moved_by_powers, raised_at}
use Rattle.rules.proofs.Each.{each_length, each_at, each_take, each_same}
use Rattle.rules.proofs.Field.{minus_below, minus_then_plus, plus_reduced}

-- ---- the first n numbers, the one at k by f (k + b)

-- The first n numbers changed, the others as they are.
abbrev pub changed : (ℕ → ℕ → ℕ) → ℕ → ℕ → List ℕ → List ℕ
changed f k n l = each f k (take n l) ++ drop n l

-- After k of n numbers, what is left to do makes the whole change.
pub record Changing (f : ℕ → ℕ → ℕ) (b n : ℕ) (before now : List ℕ) (k : ℕ) : Type 0 where
  pub within : k ≤ n
  pub room : n ≤ length before
  pub long : length now ≡ length before
  pub whole : take k now ++ changed f (k + b) (n - k) (drop k now) ≡ changed f b n before

module _ {f : ℕ → ℕ → ℕ} {b n : ℕ} {before : List ℕ} where
  -- Before the first, all is left to do.
  pub changing_start : n ≤ length before → Changing f b n before before 0
  changing_start h = record { within = zero-le; room = h; long = refl; whole = rw (sub-zero, zero-add) }

  -- One turn: the place at k holds what f makes of it.
  pub changing_turn : {now : List ℕ} {k v j : ℕ} → Changing f b n before now k → k < n → v ≡ f (k + b) (get_or now k 0) → j ≡ k + 1
      → Changing f b n before (set now k v) j
  unfolding each
  changing_turn {now} {k} {v} {j} i h e ej =
      let l : k < length now = omega (arith, i.room, i.long) in
      let r : n - k ≡ suc (n - suc k) = omega arith in
      let u : k < suc k = omega arith in
      let w : suc k + b ≡ suc (k + b) = omega arith in
      rw (ej, add-one) (record {
        within = omega arith;
        room = i.room;
        long = length-set now k v ∙ i.long;
        whole = rw (take-suc-set, drop-set-lt, append_snoc, w, e) (sym (rw (r, drop-cons now k 0)) ∙ i.whole);
      })

  -- After the last, the change is made.
  pub changing_done : {now : List ℕ} {k : ℕ} → Changing f b n before now k → n ≤ k → now ≡ changed f b n before
  unfolding each
  changing_done {now} {k} i h =
      let o : n - k ≡ 0 = omega arith in
      sym (take-append-drop k now) ∙ (rw o at i.whole)

-- Where every number changes, none is left as it is.
pub changed_all : (f : ℕ → ℕ → ℕ) (b n : ℕ) (l : List ℕ) → length l ≤ n → changed f b n l ≡ each f b l
changed_all f b n l h = rw (take_all n l h, drop_of_length-le l h) (append-nil (each f b l))

-- ---- differences

-- There are as many differences as both lists have sums.
pub differences_length : (K : Kind) (l o : List ℕ) → length (differences K l o) ≡ common l o
differences_length K l o = each_length _ 0 (take (common l o) l) ∙ length-take-le (common l o) l (omega arith)

-- Difference j.
pub differences_at : (K : Kind) (l o : List ℕ) (j : ℕ) → j < common l o → get_or (differences K l o) j 0 ≡ minus K (get_or l j 0) (get_or o j 0)
differences_at K l o j h =
    each_at _ 0 (take (common l o) l) j (omega (arith, length-take-le (common l o) l (omega arith)))
    ∙ rw (zero-add, get_or-take (common l o) l j 0 h)

-- The first t of them are those of the first m and the first n sums, where t is no more than either.
pub differences_first : (K : Kind) (t m n : ℕ) (l o : List ℕ) → t ≤ m → t ≤ n → t ≤ length l → t ≤ length o
    → take t (differences K l o) ≡ each (λ (k s : ℕ). minus K s (get_or (take n o) k 0)) 0 (take t (take m l))
differences_first K t m n l o tm tn tl to =
    each_take _ t 0 (take (common l o) l)
    ∙ each_same _ _ 0 (take t (take (common l o) l)) (take t (take m l)) (ap length same)
    (λ j h. let u : j < t = omega (arith, length-take t (take (common l o) l)) in rw (same, zero-add, get_or-take n o j 0 (omega arith)))
  where
    same : take t (take (common l o) l) ≡ take t (take m l)
    same = take-take t (common l o) l (omega arith) ∙ sym (take-take t m l tm)

-- The differences of the first sums of two lists, as many as the smaller of two numbers, are those of the lists cut to the two numbers.
pub differences_parts : (K : Kind) (t m n : ℕ) (l o : List ℕ) → t ≡ min m n → m ≤ length l → n ≤ length o
    → differences K (take t l) (take t o) ≡ each (λ (k s : ℕ). minus K s (get_or (take n o) k 0)) 0 (take (min m n) (take m l))
differences_parts K t m n l o e lm ln =
    let tl = length-take-le t l (omega (arith, e)) in
    let to = length-take-le t o (omega (arith, e)) in
    let all : common (take t l) (take t o) ≡ t = omega (arith, tl, to) in
    let same : take (common (take t l) (take t o)) (take t l) ≡ take (min m n) (take m l) =
    rw (all, take-take t t l (omega arith), ← e, take-take t m l (omega (arith, e))) in
    each_same _ _ 0 (take (common (take t l) (take t o)) (take t l)) (take (min m n) (take m l)) (ap length same)
    (λ j h. rw same (ap (λ (b : ℕ). minus K (get_or (take (min m n) (take m l)) j 0) b)
    (agree j (omega (arith, length-take (common (take t l) (take t o)) (take t l), all, tl)))))
  where
    agree : (j : ℕ) → j < t → get_or (take t o) (0 + j) 0 ≡ get_or (take n o) (0 + j) 0
    agree j h = rw (zero-add, get_or-take t o j 0 h, get_or-take n o j 0 (omega (arith, e)))

-- ---- powers of a residue, or their negatives

module _ (K : Kind) where
  -- y is the i-th power of x up to multiples of the prime, or cancels it where sums go down.
  pub record Power (down : Bool) (x i y : ℕ) : Type 0 where
    pub is : cond down ((y + x ^ i) % K.modulus ≡ 0) (y % K.modulus ≡ x ^ i % K.modulus)

  -- A number, or its negative, is the first power.
  pub power_one : (down : Bool) (x : ℕ) → Power down x 1 (signed K down x)
  power_one true x = record { is = ap (λ (z : ℕ). (negative K x + z) % K.modulus) (pow_one x) ∙ minus_then_plus K 0 x ∙ zero-mod K.modulus }
  power_one false x = record { is = ap (λ (z : ℕ). z % K.modulus) (sym (pow_one x)) }

  -- A power, or its negative.
  pub power_signed : (down : Bool) {x i y : ℕ} → Power false x i y → Power down x i (signed K down y)
  power_signed true {x} {i} {y} p = record {
    is = add_congruent K.modulus (negative K y) (negative K y) (x ^ i) y refl (sym p.is) ∙ minus_then_plus K 0 y ∙ zero-mod K.modulus;
  }
  power_signed false p = p

  -- A power, or its negative, times a power is the power with both exponents, or its negative.
  pub power_times : (down : Bool) {x i j k y z v : ℕ} → Power down x i y → Power false x j z → v ≡ times K y z → k ≡ i + j → Power down x k v
  power_times true {x} {i} {j} {k} {y} {z} p q e h = record {
    is =
        rw (e, h)
        (add_congruent K.modulus (times K y z) (y * z) (x ^ (i + j)) (x ^ i * z) (mod-mod (y * z) K.modulus)
        (ap (λ (w : ℕ). w % K.modulus) (pow-add x i j) ∙ mul_congruent K.modulus (x ^ i) (x ^ i) (x ^ j) z refl (sym q.is))
        ∙ ap (λ (w : ℕ). w % K.modulus) (sym (add-mul y (x ^ i) z))
        ∙ mul_congruent K.modulus (y + x ^ i) 0 z z (p.is ∙ sym (zero-mod K.modulus)) refl
        ∙ ap (λ (w : ℕ). w % K.modulus) (zero-mul z) ∙ zero-mod K.modulus);
  }
  power_times false {x} {i} {j} {k} {y} {z} p q e h = record {
    is =
        ap (λ (w : ℕ). w % K.modulus) e ∙ mod-mod (y * z) K.modulus ∙ mul_congruent K.modulus y (x ^ i) z (x ^ j) p.is q.is
        ∙ ap (λ (w : ℕ). w % K.modulus) (rw h (sym (pow-add x i j)));
  }

  -- A sum that grows by it moves by the power.
  power_moves : (down : Bool) {x i y : ℕ} (s : ℕ) → Power down x i y → plus K s y ≡ moved K down s (x ^ i)
  power_moves true {x} {i} {y} s p =
      sym (mod-mod (s + y) K.modulus)
      ∙ cancel_add K.modulus (x ^ i) (plus K s y) (minus K s (x ^ i)) (there ∙ sym back)
      ∙ mod-eq_of_lt (minus_below K s (x ^ i))
    where
      there : (x ^ i + plus K s y) % K.modulus ≡ s % K.modulus
      there =
          add_congruent K.modulus (x ^ i) (x ^ i) (plus K s y) (s + y) refl (mod-mod (s + y) K.modulus)
          ∙ ap (λ (w : ℕ). w % K.modulus) (omega arith)
          ∙ add_congruent K.modulus s s (y + x ^ i) 0 refl (p.is ∙ sym (zero-mod K.modulus))
          ∙ ap (λ (w : ℕ). w % K.modulus) (omega arith)

      back : (x ^ i + minus K s (x ^ i)) % K.modulus ≡ s % K.modulus
      back = ap (λ (w : ℕ). w % K.modulus) (add_comm (x ^ i) (minus K s (x ^ i))) ∙ minus_then_plus K s (x ^ i)
  power_moves false {x} {i} {y} s p = sym (plus_reduced K s y) ∙ ap (plus K s) p.is ∙ plus_reduced K s (x ^ i)

  -- ---- each sum by its power

  -- After k of n sums, those have moved by their powers.
  pub record Raising (down : Bool) (x n : ℕ) (before now : List ℕ) (k : ℕ) : Type 0 where
    pub changing : Changing (λ (j s : ℕ). moved K down s (x ^ j)) 1 n before now k

  module _ {down : Bool} {x n : ℕ} {before : List ℕ} where
    -- At the start, with n sums or more, none has moved.
    pub raising_start : n ≤ length before → Raising down x n before before 0
    raising_start h = record { changing = changing_start h }

    -- The sum at place k moves by the next power.
    pub raising_turn : {now : List ℕ} {k y j : ℕ} → Raising down x n before now k → Power down x j y → k < n → j ≡ k + 1
        → Raising down x n before (raised_at K now k y) j
    unfolding raised_at
    raising_turn {now} {k} i p h ej = record { changing = changing_turn i.changing h (power_moves down (get_or now k 0) (rw ej at p)) ej }

    -- After the last, every sum has moved.
    pub raising_done : {now : List ℕ} {k : ℕ} → Raising down x n before now k → length before ≡ n → n ≤ k → now ≡ moved_by_powers K down x before
    raising_done i e h = changing_done i.changing h ∙ changed_all _ 1 n before (omega arith)

  -- Four chains: the next four powers after the k-th, or their negatives, and the fourth power by which each steps.
  pub record Chains (down : Bool) (x z k y₀ y₁ y₂ y₃ : ℕ) : Type 0 where
    pub first : Power down x (k + 1) y₀
    pub second : Power down x (k + 2) y₁
    pub third : Power down x (k + 3) y₂
    pub fourth : Power down x (k + 4) y₃
    pub step : Power false x 4 z

  -- They begin with three products: the square, the cube and the fourth power.
  pub chains_start : (down : Bool) {x s c z : ℕ} → s ≡ times K x x → c ≡ times K s x → z ≡ times K s s
      → Chains down x z 0 (signed K down x) (signed K down s) (signed K down c) (signed K down z)
  chains_start down {x} es ec ez =
      let one = power_one false x in
      let two = power_times false one one es refl in
      let three = power_times false two one ec refl in
      let four = power_times false two two ez refl in
      record {
        first = power_signed down one;
        second = power_signed down two;
        third = power_signed down three;
        fourth = power_signed down four;
        step = four;
      }

  module _ {down : Bool} {x z k y₀ y₁ y₂ y₃ : ℕ} (c : Chains down x z k y₀ y₁ y₂ y₃) where
    -- Each times the fourth power is four places further.
    pub chains_turn : Chains down x z (k + 4) (times K y₀ z) (times K y₁ z) (times K y₂ z) (times K y₃ z)
    chains_turn = record {
      first = power_times down c.first c.step refl (omega arith);
      second = power_times down c.second c.step refl (omega arith);
      third = power_times down c.third c.step refl (omega arith);
      fourth = power_times down c.fourth c.step refl (omega arith);
      step = c.step;
    }

    -- Four sums move by them.
    pub chains_move : {n : ℕ} {before now : List ℕ} → Raising down x n before now k → k + 4 ≤ n
        → Raising down x n before (raised_at K (raised_at K (raised_at K (raised_at K now k y₀) (k + 1) y₁) (k + 2) y₂) (k + 3) y₃) (k + 4)
    chains_move r h =
        let one = raising_turn r c.first (omega arith) refl in
        let two = raising_turn one c.second (omega arith) (omega arith) in
        let three = raising_turn two c.third (omega arith) (omega arith) in
        raising_turn three c.fourth (omega arith) (omega arith)

  -- ---- how far the loops have come

  -- The first `place` sums, one at least, have moved, and `power` is that of the last of them.
  pub record Reaches (down : Bool) (x : ℕ) (before now : List ℕ) (place power : ℕ) : Type 0 where
    pub some : 1 ≤ place
    pub raising : Raising down x (length before) before now place
    pub last : Power down x place power

  module _ {down : Bool} {x : ℕ} {before now : List ℕ} {place power : ℕ} (r : Reaches down x before now place power) where
    -- One sum more, by the power times x.
    pub reaches_turn : {next : ℕ} → place < length before → next ≡ times K power x
        → Reaches down x before (raised_at K now place next) (place + 1) next
    reaches_turn h e =
        let p = power_times down r.last (power_one false x) e refl in
        record { some = omega (arith, r.some); raising = raising_turn r.raising p h refl; last = p }

    -- After the last, every sum has moved.
    pub reaches_done : length before ≤ place → now ≡ moved_by_powers K down x before
    reaches_done h = raising_done r.raising refl h

  -- The first sum moves by x, or falls by it.
  pub reaches_first : (down : Bool) (x : ℕ) (before : List ℕ) → 0 < length before
      → Reaches down x before (raised_at K before 0 (signed K down x)) 1 (signed K down x)
  reaches_first down x before h =
      let p = power_one down x in
      record { some = omega arith; raising = raising_turn (raising_start (omega arith)) p h refl; last = p }

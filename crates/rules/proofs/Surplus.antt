-- The promise with the roles changed: whatever has happened to a sketch, the surplus that it lists is exactly what was taken out beyond what was put in,
-- and the sums determine it. For every kind. A sketch negated is a fresh one less it, so a history turned round leaves what the history exceeds by.
-- Assumes nothing.
use Prim.Native.Nat.{ℕ, zero, suc, ◌<◌, ◌≤◌}
use mathlib.Core.Path.{◌≡◌, refl, sym, ◌∙◌, ap}
use mathlib.Core.Bool.{true, cond}
use mathlib.Core.List.{List, [], map}
use native.Mathlib.Omega.{arith}
use lib.Dec.{eqb, ltb}
use lib.IntN.{pos, negsuc, neg_ℤ}
use lib.ListN.{length, take}
use borrow.Author.Tests.{eq-eqb, ne_eqb, le-leb}
use Rattle.std.proofs.lemmas.List.{take-map}
use Rattle.rules.specs.Kind.{Kind, counts, half_counts}
use Rattle.rules.specs.Field.{residue, difference, negative}
use Rattle.rules.specs.Signed.{signed_count, below_zero}
use Rattle.rules.specs.Sketch as sketch
use Rattle.rules.specs.Sketch.{Sketch, negate, surplus_in}
use Rattle.rules.specs.Decode.{keep, decode, surplus}
use Rattle.rules.specs.Calls as calls
use Rattle.rules.specs.Calls.{given}
use Rattle.rules.specs.History.{History, fresh, sub, sketch_of, Allowed, Leaves, excess, Exceeds}
use Rattle.rules.proofs.Negation.{nothing_less, signed_itself, signed_negative}
use Rattle.rules.proofs.Promise.{well_formed_lem, count_exact, keep_none, decode_lists, same_net}
use Rattle.rules.proofs.Left.{none_left}

module _ (K : Kind) (h : History) where
  -- The history turned round: a fresh sketch less the history's.
  abbrev turned : History
  turned = sub (fresh (sketch_of K h).threshold) h

  -- Its sketch is the negated one.
  turned_sketch : Allowed K h → sketch_of K turned ≡ negate K (sketch_of K h)
  turned_sketch a = nothing_less K (sketch_of K h) (well_formed_lem K h a)

  module _ (n : ℕ) (exceeds : Exceeds K h n) where
    -- It leaves what the history exceeds by.
    turned_leaves : Leaves K turned n
    unfolding sketch.subtract sketch.fresh
    turned_leaves =
        let w = well_formed_lem K h exceeds.allowed in
        record {
          allowed = ((w.at_least, w.at_most), exceeds.allowed);
          none_below = exceeds.none_above;
          in_all = exceeds.in_all;
          enough = omega (arith, exceeds.few);
        }

    -- The negated sketch counts what the history exceeds by.
    negated_count : (negate K (sketch_of K h)).count ≡ n
    negated_count = ap (λ (s : Sketch). s.count) (sym (turned_sketch exceeds.allowed)) ∙ count_exact K turned n turned_leaves

    -- The signed count says how many are surplus: it is so many below zero.
    pub signed_exact : signed_count (sketch_of K h).count ≡ neg_ℤ (pos n)
    unfolding negate
    signed_exact = read (sketch_of K h).count n (well_formed_lem K h exceeds.allowed).count_below few negated_count
      where
        few : n < half_counts
        few = omega (arith, exceeds.few, (well_formed_lem K h exceeds.allowed).at_most, K.counted)

        read : (c n : ℕ) → c < counts → n < half_counts → difference counts 0 c ≡ n → signed_count c ≡ neg_ℤ (pos n)
        read c zero u few e = signed_itself c (omega arith) ∙ ap pos (omega arith)
        read c (suc k) u few e = signed_negative c (omega arith) u ∙ ap negsuc (omega arith)

    -- So does the surplus that is read off the sketch.
    surplus_number : surplus_in (sketch_of K h) ≡ n
    surplus_number = ap below_zero signed_exact ∙ below n
      where
        below : (n : ℕ) → below_zero (neg_ℤ (pos n)) ≡ n
        below zero = refl
        below (suc k) = refl

    -- The got codes listed are exactly those whose residue was taken out more often than put in, as they stand, in their order, repeats kept.
    pub surplus_lists : (got : List ℕ) → surplus K (sketch_of K h) got ≡ keep (λ c. ltb 0 (excess K h (residue K c))) got
    unfolding surplus
    surplus_lists got = by_number n refl
      where
        lists : decode K (negate K (sketch_of K h)) got ≡ keep (λ c. ltb 0 (excess K h (residue K c))) got
        lists = ap (λ (s : Sketch). decode K s got) (sym (turned_sketch exceeds.allowed)) ∙ decode_lists K turned n turned_leaves got

        by_number : (m : ℕ) → n ≡ m
            → cond (eqb (surplus_in (sketch_of K h)) 0) [] (decode K (negate K (sketch_of K h)) got) ≡ keep (λ c. ltb 0 (excess K h (residue K c))) got
        by_number zero e =
            rw (eq-eqb (surplus_in (sketch_of K h)) 0 (surplus_number ∙ e))
            (sym (keep_none (λ c. ltb 0 (excess K h (residue K c))) (λ c. none_left K turned n turned_leaves e (residue K c)) got))
        by_number (suc k) e = rw (ne_eqb (surplus_in (sketch_of K h)) 0 (λ z. omega (arith, surplus_number))) lists

    -- The call is not refused where the lent places are enough for the got codes, and gives that list.
    pub surplus_exact : (got : List ℕ) (places : ℕ) → length got ≤ places
        → calls.decode_surplus K true (sketch_of K h) got places ≡ given (keep (λ c. ltb 0 (excess K h (residue K c))) got)
    unfolding calls.decode_surplus
    surplus_exact got places room =
        rw (
          le-leb (surplus_in (sketch_of K h)) (sketch_of K h).threshold (omega (arith, surplus_number, exceeds.few)),
          le-leb (length got) places room,
          surplus_lists got,
        )

-- Two histories that exceed by equally many, with the same first sums, exceed by the same, residue by residue.
pub same_excess : (K : Kind) (h g : History) (n : ℕ) → Exceeds K h n → Exceeds K g n → take n (sketch_of K h).sums ≡ take n (sketch_of K g).sums
    → (r : ℕ) → excess K h r ≡ excess K g r
unfolding negate
same_excess K h g n exceeds others e =
    same_net K (turned K h) (turned K g) n (turned_leaves K h n exceeds) (turned_leaves K g n others)
    (first h exceeds.allowed ∙ ap (map (negative K)) e ∙ sym (first g others.allowed))
  where
    first : (k : History) → Allowed K k → take n (sketch_of K (turned K k)).sums ≡ map (negative K) (take n (sketch_of K k).sums)
    first k a = ap (λ (s : Sketch). take n s.sums) (turned_sketch K k a) ∙ take-map (negative K) n (sketch_of K k).sums

-- What a history leaves, as a list: the sums are its power sums, and the roots of the coefficients are its members.
-- Assumes nothing.
use Prim.Native.Nat.{ℕ, zero, suc, ◌+◌, ◌*◌, ◌%◌, ◌<◌, ◌≤◌}
use mathlib.Core.Path.{◌≡◌, refl, sym, ◌∙◌, ap}
use mathlib.Core.Logic.{◌↔◌}
use mathlib.Core.Bool.{Bool, true, false}
use mathlib.Core.List.{List, [], ◌∷◌, ◌++◌, Memᴰ, Permᴰ}
use native.Mathlib.Omega.{arith}
use lib.Dec.{eqb, ltb}
use lib.ListN.{length, get_or, take, length-append}
use lib.Seq.{get_or-take}
use borrow.Author.Tests.{eqb-true, eqb-false, lt-ltb, le-ltb}
use Rattle.numbers.proofs.Congruence.{cancel_add}
use Rattle.newton.specs.Members.{AllBelow, count}
use Rattle.newton.specs.PowerSum.{power_sum}
use Rattle.newton.specs.Polynomial.{horner, convolution, entry}
use Rattle.newton.proofs.Permutation.{remainder, length_permuted, all_below_permuted, all_below_after, count_permuted, count_append, count_of_none, counted}
use Rattle.newton.proofs.Permutation.{power_sum_permuted, power_sum_append}
use Rattle.newton.proofs.Recurrence.{zero_exactly_at_members}
use Rattle.newton.proofs.Unique.{sums_determine_members}
use Rattle.rules.specs.Kind.{Kind}
use Rattle.rules.specs.Field.{residue}
use Rattle.rules.specs.Decode.{coefficients, evaluate}
use Rattle.rules.specs.History.{History, sketch_of, put_in, taken_out, net, Leaves}
use Rattle.rules.proofs.Field.{residue_below}
use Rattle.rules.proofs.Recurrence.{solution, newton_solved, evaluate_solution}
use Rattle.rules.proofs.Balance.{well_formed_history, sums_balance, count_is_net, residues_below}

module _ (K : Kind) (h : History) (n : ℕ) (leaves : Leaves K h n) where
  left_over : (rest : List ℕ) × Permᴰ (put_in K h) (taken_out K h ++ rest)
  left_over = remainder (put_in K h) (taken_out K h) leaves.none_below

  -- ---- the list

  -- The residues that are left, each as often as its net number says.
  pub left : List ℕ
  left = left_over.0

  -- They are n in all.
  pub left_length : length left ≡ n
  unfolding left
  left_length = omega (arith, length_permuted left_over.1, length-append (taken_out K h) left_over.0, leaves.in_all)

  -- They are residues.
  pub left_below : AllBelow K.modulus left
  unfolding left
  left_below = all_below_after K.modulus (taken_out K h) left_over.0 (all_below_permuted K.modulus left_over.1 (residues_below K h).0)

  -- Each is left as often as its net number says.
  pub left_net : (r : ℕ) → count r left ≡ net K h r
  unfolding left
  left_net r = omega (arith, count_permuted r left_over.1, count_append r (taken_out K h) left_over.0)

  -- They are fewer than the prime.
  pub left_few : n < K.modulus
  left_few = omega (arith, leaves.enough, (well_formed_history K h leaves.allowed).at_most, K.above)

  -- The count says how many are left.
  pub count_is_left : (sketch_of K h).count ≡ n
  count_is_left =
      count_is_net K h leaves.allowed n (omega (arith, leaves.enough, (well_formed_history K h leaves.allowed).at_most, K.counted)) leaves.in_all

  -- Sum i, i from 1 to n, is congruent to their power sum.
  pub left_sums : (i : ℕ) → 0 < i → i ≤ n → entry (0 ∷ (sketch_of K h).sums) i % K.modulus ≡ power_sum left i % K.modulus
  unfolding left
  left_sums zero l u = absurd (omega arith)
  left_sums (suc j) l u =
      cancel_add K.modulus (power_sum (taken_out K h) (suc j)) (get_or (sketch_of K h).sums j 0) (power_sum left_over.0 (suc j))
      (ap (λ (z : ℕ). z % K.modulus) (omega arith) ∙ sums_balance K h leaves.allowed j (omega (arith, leaves.enough))
      ∙ ap (λ (z : ℕ). z % K.modulus) (power_sum_permuted (suc j) left_over.1 ∙ power_sum_append (taken_out K h) left_over.0 (suc j)))

  -- ---- the roots

  solves : (k : ℕ) → 0 < k → k ≤ n
      → (k * solution K (sketch_of K h).sums k + convolution (solution K (sketch_of K h).sums) (entry (0 ∷ (sketch_of K h).sums)) k) % K.modulus ≡ 0
  solves zero l u = absurd (omega arith)
  solves (suc i) l u =
      newton_solved K (sketch_of K h).sums i (omega (arith, (well_formed_history K h leaves.allowed).as_many, leaves.enough)) (omega (arith, left_few))

  -- The value at a code is 0 exactly where its residue is left.
  pub root_is_left : (c : ℕ) → (evaluate K (coefficients K (sketch_of K h).sums (sketch_of K h).count) c ≡ 0) ↔ Memᴰ (residue K c) left
  root_is_left c = (λ z. both.0 (sym value ∙ z), λ m. value ∙ both.1 m)
    where
      both : (horner (solution K (sketch_of K h).sums) (residue K c) n % K.modulus ≡ 0) ↔ Memᴰ (residue K c) left
      both =
          zero_exactly_at_members K.modulus K.prime left left_below (solution K (sketch_of K h).sums)
          (entry (0 ∷ (sketch_of K h).sums)) n left_few refl solves
          left_sums (sym left_length) (residue K c) (residue_below K c)

      value : evaluate K (coefficients K (sketch_of K h).sums (sketch_of K h).count) c ≡ horner (solution K (sketch_of K h).sums) (residue K c) n % K.modulus
      value =
          evaluate_solution K (sketch_of K h).sums (sketch_of K h).count c
          ∙ ap (λ (z : ℕ). horner (solution K (sketch_of K h).sums) (residue K c) z % K.modulus) count_is_left

  -- That is where its net number is above zero.
  pub root_is_net : (c : ℕ) → eqb (evaluate K (coefficients K (sketch_of K h).sums (sketch_of K h).count) c) 0 ≡ ltb 0 (net K h (residue K c))
  root_is_net c = by_value (eqb value 0) refl
    where
      value : ℕ
      value = evaluate K (coefficients K (sketch_of K h).sums (sketch_of K h).count) c

      by_value : (root : Bool) → eqb value 0 ≡ root → root ≡ ltb 0 (net K h (residue K c))
      by_value true t = sym (lt-ltb 0 (net K h (residue K c)) (omega (arith, left_net (residue K c), counted ((root_is_left c).0 (eqb-true value 0 t)))))
      by_value false t =
          let none = count_of_none (residue K c) left (λ m. eqb-false value 0 t ((root_is_left c).1 m)) in
          sym (le-ltb 0 (net K h (residue K c)) (omega (arith, left_net (residue K c))))

  -- Where nothing is left, no residue has a net number above zero.
  pub none_left : n ≡ 0 → (r : ℕ) → ltb 0 (net K h r) ≡ false
  none_left e r = le-ltb 0 (net K h r) (omega (arith, left_net r, none left (left_length ∙ e)))
    where
      none : (rs : List ℕ) → length rs ≡ 0 → count r rs ≡ 0
      none [] e = refl
      none (x ∷ rs) e = absurd (omega arith)

-- ---- two histories

-- Two histories that leave equally many, with the same first sums, leave the same up to the order.
pub left_permuted : (K : Kind) (h g : History) (n : ℕ) (leaves : Leaves K h n) (others : Leaves K g n)
    → take n (sketch_of K h).sums ≡ take n (sketch_of K g).sums → Permᴰ (left K h n leaves) (left K g n others)
left_permuted K h g n leaves others e =
    sums_determine_members K.modulus K.prime (left K h n leaves) (left K g n others) (left_below K h n leaves) (left_below K g n others)
    (left_length K g n others ∙ sym (left_length K h n leaves)) (omega (arith, left_few K h n leaves, left_length K h n leaves))
    (λ i l u. power_sums i l (omega (arith, left_length K h n leaves)))
  where
    same_sum : (j : ℕ) → j < n → get_or (sketch_of K h).sums j 0 ≡ get_or (sketch_of K g).sums j 0
    same_sum j l = sym (get_or-take n (sketch_of K h).sums j 0 l) ∙ ap (λ (s : List ℕ). get_or s j 0) e ∙ get_or-take n (sketch_of K g).sums j 0 l

    power_sums : (i : ℕ) → 0 < i → i ≤ n → power_sum (left K h n leaves) i % K.modulus ≡ power_sum (left K g n others) i % K.modulus
    power_sums zero l u = absurd (omega arith)
    power_sums (suc j) l u =
        sym (left_sums K h n leaves (suc j) l u) ∙ ap (λ (z : ℕ). z % K.modulus) (same_sum j u) ∙ left_sums K g n others (suc j) l u

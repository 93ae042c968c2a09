-- The sums and the count of a history's sketch: with what was taken out they come to what was put in.
-- Assumes nothing.
use Prim.Native.Nat.{ℕ, suc, ◌+◌, ◌%◌, ◌^◌, ◌<◌, min}
use mathlib.Core.Path.{◌≡◌, refl, sym, ◌∙◌, ap}
use mathlib.Core.List.{List, ◌∷◌, ◌++◌}
use native.Mathlib.Nat.{mod-mod, mod-eq_of_lt}
use native.Mathlib.Omega.{arith}
use lib.ListN.{length, get_or, take, length-append, get_or-replicate}
use lib.Seq.{get_or-take, length-take-le}
use Rattle.numbers.proofs.Congruence.{add_congruent, cancel_add, subtract_then_add}
use Rattle.newton.specs.Members.{AllBelow}
use Rattle.newton.specs.PowerSum.{power_sum}
use Rattle.newton.proofs.Permutation.{power_sum_append, all_below_append}
use Rattle.rules.specs.Kind.{Kind, counts}
use Rattle.rules.specs.Field.{residue, minus, difference}
use Rattle.rules.specs.Sketch as sketch
use Rattle.rules.specs.Sketch.{Sketch, WellFormed}
use Rattle.rules.specs.History.{History, fresh, insert, remove, sub_assign, sub, carried, sketch_of, Allowed, put_in, taken_out}
use Rattle.rules.proofs.Field.{residue_below, minus_then_plus}
use Rattle.rules.proofs.Each.{each_at}
use Rattle.rules.proofs.WellFormed.{fresh_well_formed, insert_well_formed, remove_well_formed, subtract_well_formed, cut_well_formed}

-- Every history that is not refused ends in a well-formed sketch.
pub well_formed_history : (K : Kind) (h : History) → Allowed K h → WellFormed K (sketch_of K h)
well_formed_history K (fresh threshold) a = fresh_well_formed K threshold a.0 a.1
well_formed_history K (insert h c) a = insert_well_formed K (sketch_of K h) c (well_formed_history K h a)
well_formed_history K (remove h c) a = remove_well_formed K (sketch_of K h) c (well_formed_history K h a)
well_formed_history K (sub_assign h g) a =
    subtract_well_formed K (sketch_of K h) (sketch_of K g) (well_formed_history K h a.0) (well_formed_history K g a.1)
well_formed_history K (sub h g) a = subtract_well_formed K (sketch_of K h) (sketch_of K g) (well_formed_history K h a.0) (well_formed_history K g a.1)
well_formed_history K (carried h m) a = cut_well_formed K (sketch_of K h) m a.1 (well_formed_history K h a.0)

-- ---- one number through a call

module _ (m : ℕ) where
  -- A number s that with `out` comes to `put` grows by x.
  balance_put : (s after x put out : ℕ) → after % m ≡ (s + x) % m → (s + out) % m ≡ put % m → (after + out) % m ≡ (x + put) % m
  balance_put s after x put out e balance =
      add_congruent m after (s + x) out out e refl ∙ ap (λ (z : ℕ). z % m) (omega arith) ∙ add_congruent m x x (s + out) put refl balance

  -- It falls by x.
  balance_out : (s after x put out : ℕ) → (after + x) % m ≡ s % m → (s + out) % m ≡ put % m → (after + (x + out)) % m ≡ put % m
  balance_out s after x put out e balance = ap (λ (z : ℕ). z % m) (omega arith) ∙ add_congruent m (after + x) s out out e refl ∙ balance

  -- It falls by another such number, whose sides change.
  balance_subtract : (s t after put out put' out' : ℕ) → (after + t) % m ≡ s % m → (s + out) % m ≡ put % m → (t + out') % m ≡ put' % m
      → (after + (out + put')) % m ≡ (put + out') % m
  balance_subtract s t after put out put' out' e balance balance' =
      ap (λ (z : ℕ). z % m) (omega arith) ∙ add_congruent m (after + out) (after + out) put' (t + out') refl (sym balance')
      ∙ ap (λ (z : ℕ). z % m) (omega arith) ∙ add_congruent m (after + t) s (out + out') (out + out') e refl ∙ ap (λ (z : ℕ). z % m) (omega arith)
      ∙ add_congruent m (s + out) put out' out' balance refl

-- A count through a subtraction, over lists of what was put in and taken out.
count_subtracted : (s t : ℕ) (put out put' out' : List ℕ) → (s + length out) % counts ≡ length put % counts → (t + length out') % counts ≡ length put' % counts
    → (difference counts s t + length (out ++ put')) % counts ≡ length (put ++ out') % counts
count_subtracted s t put out put' out' balance balance' =
    rw (length-append out put', length-append put out')
    (balance_subtract counts s t (difference counts s t) (length put) (length out) (length put') (length out')
    (subtract_then_add counts (omega arith) s t) balance balance')

-- ---- the sums

-- Sum j + 1 of a sketch, with the powers of what was taken out, is congruent to the powers of what was put in.
abbrev SumBalances : Kind → Sketch → List ℕ → List ℕ → ℕ → Type 0
SumBalances K s put out j = (get_or s.sums j 0 + power_sum out (suc j)) % K.modulus ≡ power_sum put (suc j) % K.modulus

module _ (K : Kind) where
  sum_inserted : (s : Sketch) (c : ℕ) (put out : List ℕ) (j : ℕ) → j < length s.sums
      → SumBalances K s put out j → SumBalances K (sketch.insert K s c) (residue K c ∷ put) out j
  unfolding sketch.insert
  sum_inserted s c put out j l =
      balance_put K.modulus (get_or s.sums j 0) _ (residue K c ^ suc j) (power_sum put (suc j)) (power_sum out (suc j))
      (ap (λ (z : ℕ). z % K.modulus) (each_at _ 1 s.sums j l) ∙ mod-mod _ K.modulus
      ∙ ap (λ (k : ℕ). (get_or s.sums j 0 + residue K c ^ k) % K.modulus) (omega arith))

  sum_removed : (s : Sketch) (c : ℕ) (put out : List ℕ) (j : ℕ) → j < length s.sums
      → SumBalances K s put out j → SumBalances K (sketch.remove K s c) put (residue K c ∷ out) j
  unfolding sketch.remove
  sum_removed s c put out j l =
      balance_out K.modulus (get_or s.sums j 0) _ (residue K c ^ suc j) (power_sum put (suc j)) (power_sum out (suc j))
      (ap (λ (z : ℕ). (z + residue K c ^ suc j) % K.modulus)
      (each_at _ 1 s.sums j l ∙ ap (λ (k : ℕ). minus K (get_or s.sums j 0) (residue K c ^ k)) (omega arith))
      ∙ minus_then_plus K (get_or s.sums j 0) (residue K c ^ suc j))

  sum_subtracted : (s o : Sketch) (put out put' out' : List ℕ) (j : ℕ) → WellFormed K s → j < min s.threshold o.threshold
      → SumBalances K s put out j → SumBalances K o put' out' j → SumBalances K (sketch.subtract K s o) (put ++ out') (out ++ put') j
  unfolding sketch.subtract
  sum_subtracted s o put out put' out' j w l balance balance' =
      rw (power_sum_append out put' (suc j), power_sum_append put out' (suc j))
      (balance_subtract K.modulus (get_or s.sums j 0) (get_or o.sums j 0) _ (power_sum put (suc j)) (power_sum out (suc j))
      (power_sum put' (suc j)) (power_sum out' (suc j))
      (ap (λ (z : ℕ). (z + get_or o.sums j 0) % K.modulus) value ∙ minus_then_plus K (get_or s.sums j 0) (get_or o.sums j 0)) balance balance')
    where
      n : ℕ
      n = min s.threshold o.threshold

      value : get_or (sketch.each (λ (k sum : ℕ). minus K sum (get_or o.sums k 0)) 0 (take n s.sums)) j 0 ≡ minus K (get_or s.sums j 0) (get_or o.sums j 0)
      value =
          each_at _ 0 (take n s.sums) j (omega (arith, length-take-le n s.sums (omega arith)))
          ∙ ap (λ (k : ℕ). minus K (get_or (take n s.sums) j 0) (get_or o.sums k 0)) (omega arith)
          ∙ ap (λ (sum : ℕ). minus K sum (get_or o.sums j 0)) (get_or-take n s.sums j 0 l)

  -- Sum j + 1 of a history's sketch, with the powers of what was taken out, comes to the powers of what was put in.
  pub sums_balance : (h : History) → Allowed K h → (j : ℕ) → j < (sketch_of K h).threshold
      → (get_or (sketch_of K h).sums j 0 + power_sum (taken_out K h) (suc j)) % K.modulus ≡ power_sum (put_in K h) (suc j) % K.modulus
  unfolding sketch.fresh sketch.insert sketch.remove sketch.subtract sketch.cut
  sums_balance (fresh threshold) a j l = ap (λ (x : ℕ). (x + 0) % K.modulus) (get_or-replicate threshold j 0 0 l)
  sums_balance (insert h c) a j l =
      let w = well_formed_history K h a in
      sum_inserted (sketch_of K h) c (put_in K h) (taken_out K h) j (omega arith) (sums_balance h a j l)
  sums_balance (remove h c) a j l =
      let w = well_formed_history K h a in
      sum_removed (sketch_of K h) c (put_in K h) (taken_out K h) j (omega arith) (sums_balance h a j l)
  sums_balance (sub_assign h g) a j l =
      sum_subtracted (sketch_of K h) (sketch_of K g) (put_in K h) (taken_out K h) (put_in K g) (taken_out K g) j (well_formed_history K h a.0) l
      (sums_balance h a.0 j (omega arith)) (sums_balance g a.1 j (omega arith))
  sums_balance (sub h g) a j l =
      sum_subtracted (sketch_of K h) (sketch_of K g) (put_in K h) (taken_out K h) (put_in K g) (taken_out K g) j (well_formed_history K h a.0) l
      (sums_balance h a.0 j (omega arith)) (sums_balance g a.1 j (omega arith))
  sums_balance (carried h m) a j l = rw (get_or-take m (sketch_of K h).sums j 0 (omega arith)) (sums_balance h a.0 j (omega arith))

  -- ---- the count

  -- The count, with how many were taken out, comes to how many were put in.
  pub count_balance : (h : History) → ((sketch_of K h).count + length (taken_out K h)) % counts ≡ length (put_in K h) % counts
  unfolding sketch.fresh sketch.insert sketch.remove sketch.subtract sketch.cut
  count_balance (fresh threshold) = refl
  count_balance (insert h c) =
      balance_put counts (sketch_of K h).count (((sketch_of K h).count + 1) % counts) 1 (length (put_in K h)) (length (taken_out K h))
      (mod-mod ((sketch_of K h).count + 1) counts) (count_balance h) ∙ ap (λ (z : ℕ). z % counts) (omega arith)
  count_balance (remove h c) =
      ap (λ (z : ℕ). (difference counts (sketch_of K h).count 1 + z) % counts) (omega arith)
      ∙ balance_out counts (sketch_of K h).count (difference counts (sketch_of K h).count 1) 1 (length (put_in K h)) (length (taken_out K h))
      (subtract_then_add counts (omega arith) (sketch_of K h).count 1) (count_balance h)
  count_balance (sub_assign h g) =
      count_subtracted (sketch_of K h).count (sketch_of K g).count (put_in K h) (taken_out K h) (put_in K g) (taken_out K g) (count_balance h) (count_balance g)
  count_balance (sub h g) =
      count_subtracted (sketch_of K h).count (sketch_of K g).count (put_in K h) (taken_out K h) (put_in K g) (taken_out K g) (count_balance h) (count_balance g)
  count_balance (carried h m) = count_balance h

  -- A net number that a count can hold is the count itself.
  pub count_is_net : (h : History) → Allowed K h → (n : ℕ) → n < counts → length (put_in K h) ≡ n + length (taken_out K h) → (sketch_of K h).count ≡ n
  count_is_net h a n l e =
      sym (mod-eq_of_lt (well_formed_history K h a).count_below)
      ∙ cancel_add counts (length (taken_out K h)) (sketch_of K h).count n
      (ap (λ (z : ℕ). z % counts) (omega arith) ∙ count_balance h ∙ ap (λ (z : ℕ). z % counts) (omega arith)) ∙ mod-eq_of_lt l

  -- ---- the residues

  -- What is put in and taken out are residues.
  pub residues_below : (h : History) → AllBelow K.modulus (put_in K h) × AllBelow K.modulus (taken_out K h)
  residues_below (fresh threshold) = (tt, tt)
  residues_below (insert h c) = ((residue_below K c, (residues_below h).0), (residues_below h).1)
  residues_below (remove h c) = ((residues_below h).0, (residue_below K c, (residues_below h).1))
  residues_below (sub_assign h g) = (
    all_below_append K.modulus (put_in K h) (taken_out K g) (residues_below h).0 (residues_below g).1,
    all_below_append K.modulus (taken_out K h) (put_in K g) (residues_below h).1 (residues_below g).0,
  )
  residues_below (sub h g) = (
    all_below_append K.modulus (put_in K h) (taken_out K g) (residues_below h).0 (residues_below g).1,
    all_below_append K.modulus (taken_out K h) (put_in K g) (residues_below h).1 (residues_below g).0,
  )
  residues_below (carried h m) = residues_below h

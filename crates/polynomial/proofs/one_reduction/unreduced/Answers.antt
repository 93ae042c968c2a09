-- The last j coefficients added up, and then two more, or one.
use Rattle.std.proofs.Common.{ℕ, ◌≡◌, ◌+◌, ◌-◌, ◌*◌, ◌%◌, ◌^◌, ◌<◌, ◌++◌, List, [], ◌∷◌, ◌∙◌}
use Rattle.std.proofs.Common.{None, length, get_or, take, refl, sym, ap, arith, length-append, append_assoc}
use Rattle.std.proofs.Math.Nat.{mod-eq_of_lt}
use Rattle.std.proofs.Math.Seq.{get_or-take, take-take, take_all}
use Rattle.std.proofs.lemmas.List.{take_at, get_or-append-add, get_or_append_left}
use Rattle.std.proofs.lemmas.Option.{slice_get_within, get_or_from_slice_get}
use Rattle.std.specs.List.{slice_get}
use Rattle.std.specs.Slice.Exact.{rchunks_exact_rest, rchunks_exact_size}
use Rattle.numbers.proofs.Power.{pow_one}
use Rattle.rules.specs.Kind.{kind16}
use Rattle.rules.proofs.OneReduction.{SumSoFar, sum_start, power_after, sum_turn, sum_done}
use Rattle.polynomial.proofs.one_reduction.unreduced.Goals.{in-Some-first, in_default}
use Rattle.polynomial.proofs.one_reduction.unreduced.Goals as goal

-- One coefficient more, which is a word.
one_more : (cs : List ℕ) (x : ℕ) {sum power next j i a b : ℕ} (k : ℕ) → SumSoFar kind16 cs x sum power j → i ≡ j + 1 → next ≡ x ^ i % kind16.modulus
    → j < length cs → k ≡ length cs - j - 1 → get_or cs k 0 < 2 ^ 16 → a ≡ get_or cs k 0 → b ≡ power → SumSoFar kind16 cs x (sum + a * b) next i
one_more cs x k s ei e l ek fits ea eb = rw (ea, eb) (sum_turn kind16 cs x s ei e l ek (omega arith))

-- Two coefficients behind those that are left.
module _ (cs single rest after pair : List ℕ) (j : ℕ) (whole : single ++ rest ≡ take (length cs - j) cs)
    (size : length cs ≡ j + length single + length rest) (e : rest ≡ after ++ pair) (two : length pair ≡ 2) where
  before_pair : length (single ++ after) + 2 ≡ length cs - j
  before_pair = omega (arith, ap length e, length-append after pair, length-append single after)

  parts : (single ++ after) ++ pair ≡ take (length cs - j) cs
  parts = append_assoc single after pair ∙ ap (λ (z : List ℕ). single ++ z) (sym e) ∙ whole

  item : (k m : ℕ) → k < 2 → m ≡ length (single ++ after) + k → get_or pair k 0 ≡ get_or cs m 0
  item k m l em =
      sym (get_or-append-add (single ++ after) pair k 0) ∙ ap (λ (z : List ℕ). get_or z (length (single ++ after) + k) 0) parts
      ∙ get_or-take (length cs - j) cs (length (single ++ after) + k) 0 (omega (arith, before_pair)) ∙ ap (λ (i : ℕ). get_or cs i 0) (sym em)

  left : (n : ℕ) → n ≡ length (single ++ after) → single ++ after ≡ take n cs
  left n en =
      sym (take_at (single ++ after) pair n (sym en)) ∙ ap (take n) parts ∙ take-take n (length cs - j) cs (omega (arith, before_pair, en))

-- The first power of a residue is the residue.
first_power : (x : ℕ) → x < kind16.modulus → x ≡ x ^ 1 % kind16.modulus
first_power x below = sym (ap (λ (z : ℕ). z % kind16.modulus) (pow_one x) ∙ mod-eq_of_lt below)

pub loop-pair-init : goal.loop-pair-init
loop-pair-init c =
    let cs = c.args.coeffs.now in
    let x = c.args.x in
    let single = c.remainder-single.result.now in
    let pairs = c.rchunks_exact-pairs.result in
    let rest = rchunks_exact_rest c.into_iter-pair-iterator.result in
    let same = c.into_iter-pair-iterator.ensures.into_iter_gives in
    let parts : cs ≡ single ++ rest = rw (same, c.remainder-single.ensures) c.rchunks_exact-pairs.ensures.parts in
    let long = ap length parts ∙ length-append single rest in
    let none : length cs - length single - length rest ≡ 0 = omega (arith, long) in
    let whole : single ++ rest ≡ take (length cs - 0) cs = sym parts ∙ sym (take_all (length cs - 0) cs (omega arith)) in
    let few : length single ≡ length cs % 2 = ap length c.remainder-single.ensures ∙ c.rchunks_exact-pairs.ensures.remainder_len in
    let size : rchunks_exact_size c.into_iter-pair-iterator.result ≡ 2 = rw same c.rchunks_exact-pairs.ensures.size in
    let some : 0 < rchunks_exact_size c.into_iter-pair-iterator.result = omega (arith, size) in (
      rw none (sum_start kind16 cs x refl),
      rw none (first_power x c.requires.1),
      rw none whole,
      omega (arith, none, long),
      omega (arith, few),
      omega (arith, few, long),
      size,
      some,
      tt,
    )

pub loop-pair-preserved : goal.loop-pair-preserved
loop-pair-preserved c =
    let i = c.loop-pair.invariant in
    let step = c.in-Some.ensures.steps in
    let cs = c.args.coeffs.now in
    let x = c.args.x in
    let single = c.remainder-single.result.now in
    let rest = rchunks_exact_rest c.loop-pair.pair-iterator in
    let after = rchunks_exact_rest c.next.new.self in
    let pair = c.in-Some.pair.now in
    let n = length cs in
    let j = n - length single - length rest in
    let k = n - length single - length after in
    let two : length pair ≡ 2 = step.2.1 ∙ i.6 in
    let place = before_pair cs single rest after pair j i.2 i.3 step.2.0 two in
    let ends = length-append single after in
    let further : k ≡ j + 1 + 1 = omega (arith, place, ends, i.3) in
    let last = item cs single rest after pair j i.2 i.3 step.2.0 two 1 (n - j - 1) (omega arith) (omega (arith, place)) in
    let other = item cs single rest after pair j i.2 i.3 step.2.0 two 0 (n - j - 1 - 1) (omega arith) (omega (arith, place)) in
    let word = c.type_inv.coeffs in
    let within : j + 1 < n = omega (arith, place) in
    let first =
    one_more cs x (n - j - 1) i.0 refl i.1 (omega arith) refl (omega (arith, word (n - j - 1))) (c.from.ensures ∙ last)
    c.from-in-loop-pair.ensures in
    let powers : j + 2 ≡ k = omega (arith, further) in
    let powers_after : j + 1 + 2 ≡ k + 1 = omega (arith, further) in
    let power = c.times-power.ensures ∙ power_after kind16 cs x j i.0.powered c.times-square.ensures ∙ ap (λ (m : ℕ). x ^ m % kind16.modulus) powers in
    let size : rchunks_exact_size c.next.new.self ≡ 2 = step.0 ∙ i.6 in
    let some : 0 < rchunks_exact_size c.next.new.self = omega (arith, size) in (
      one_more cs x (n - j - 1 - 1) first further power within (omega arith) (omega (arith, word (n - j - 1 - 1))) (c.from-in-loop-pair-2.ensures ∙ other)
          c.from-in-loop-pair-3.ensures,
      c.times-next.ensures ∙ power_after kind16 cs x (j + 1) i.1 c.times-square.ensures ∙ ap (λ (m : ℕ). x ^ m % kind16.modulus) powers_after,
      left cs single rest after pair j i.2 i.3 step.2.0 two (n - k) (omega (arith, place, further)),
      omega (arith, place, ends, i.3),
      i.4,
      omega (arith, i.5, place, ends, i.3),
      size,
      some,
      tt,
    )

-- The single one is the first coefficient.
single_item : (cs single rest : List ℕ) (n : ℕ) → single ++ rest ≡ take n cs → 0 < n → 0 < length single → get_or single 0 0 ≡ get_or cs 0 0
single_item cs single rest n whole l some =
    sym (get_or_append_left single rest 0 0 some) ∙ ap (λ (z : List ℕ). get_or z 0 0) whole ∙ get_or-take n cs 0 0 l

none_single : (single : List ℕ) → None ≡ slice_get single 0 → length single ≡ 0
none_single [] e = refl
none_single (a ∷ single) e = grind (arith, e)

pub returns : goal.returns
returns c =
    let i = c.loop-pair.invariant in
    let cs = c.args.coeffs.now in
    let x = c.args.x in
    let single = c.remainder-single.result.now in
    let rest = rchunks_exact_rest c.loop-pair.pair-iterator in
    let j = length cs - length single - length rest in
    let spent : length rest ≡ 0 = omega (arith, c.in-None.ensures.steps.2.0, i.6, i.5) in
    let below = sym (mod-eq_of_lt c.requires.1) in
    elim c.match-first.branch [
      | in-Some-first w ↦
          let read = sym w.in-Some-first.ensures.value in
          let some = slice_get_within single 0 w.in-Some-first.first.now read in
          let first = single_item cs single rest (length cs - j) i.2 (omega (arith, some, i.3)) some in
          let value = w.from-in-Some-first.ensures ∙ sym (get_or_from_slice_get single 0 w.in-Some-first.first.now 0 read) ∙ first in
          let all =
          one_more cs x 0 i.0 refl i.1 (omega (arith, some, i.3)) (omega (arith, some, i.3, i.4, spent)) (omega (arith, c.type_inv.coeffs 0)) value
          w.from-in-Some-first-2.ensures in
          rw (w.sum-is, c.from-2.ensures, w.power-is) (sum_done kind16 cs x all (omega (arith, i.3, i.4, spent)) below)
      | in_default w ↦
          let none = none_single single w.in_default.ensures.value in
          rw (w.sum-is, c.from-2.ensures, w.power-is) (sum_done kind16 cs x i.0 (omega (arith, i.3, none, spent)) below)
    ]

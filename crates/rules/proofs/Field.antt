-- The field of a kind: every answer is below the prime, a number may be reduced before it is used, the power is the power, and the inverse inverts.
-- Assumes nothing.
use Prim.Native.Nat.{ℕ, ◌+◌, ◌-◌, ◌*◌, ◌/◌, ◌%◌, ◌^◌, ◌<◌, ◌≤◌, ◌∣◌}
use mathlib.Core.Path.{◌≡◌, sym, ◌∙◌, ap, subst}
use mathlib.Core.Bool.{true}
use mathlib.Core.List.{List}
use native.Mathlib.Nat.{mod-lt, mod-mod, mod-eq_of_lt, mod-eq-sub-mod, add-mod, add-mod-mod, mod-add-mod, pow-zero}
use native.Mathlib.Omega.{arith}
use lib.Dec.{T, eqb→eq}
use lib.ListN.{length, get_or}
use Rattle.std.proofs.lemmas.Nat.{mul-mod_second, pow-mod}
use Rattle.numbers.proofs.Congruence.{subtract_then_add}
use Rattle.numbers.proofs.Inverse.{inverse_is_power, inverse_of_zero}
use Rattle.numbers.proofs.Power.{pow_one, power_mod_lem, power_even, power_odd}
use Rattle.numbers.proofs.Table.{at_entry}
use Rattle.rules.specs.Kind.{Kind, counts}
use Rattle.rules.specs.Field.{residue, plus, difference, minus, times, power, inverse, inverse_at, inverses_right}

module _ (K : Kind) where
  -- The prime is above 0.
  pub positive : 0 < K.modulus
  positive = omega (arith, K.odd)

  -- ---- every answer is a residue

  -- The residue of a code is below the prime.
  pub residue_below : (c : ℕ) → residue K c < K.modulus
  residue_below c = mod-lt c positive

  -- A sum is below the prime.
  pub plus_below : (a b : ℕ) → plus K a b < K.modulus
  plus_below a b = mod-lt (a + b) positive

  -- A difference is below the prime.
  pub minus_below : (a b : ℕ) → minus K a b < K.modulus
  minus_below a b = mod-lt (a + (K.modulus - b % K.modulus)) positive

  -- A product is below the prime.
  pub times_below : (a b : ℕ) → times K a b < K.modulus
  times_below a b = mod-lt (a * b) positive

  -- The power is the power: b to the e, modulo the prime.
  pub power_is : (b e : ℕ) → power K b e ≡ b ^ e % K.modulus
  power_is b e = power_mod_lem K.modulus b e

  -- A power is below the prime.
  pub power_below : (b e : ℕ) → power K b e < K.modulus
  power_below b e = subst (λ (x : ℕ). x < K.modulus) (sym (power_is b e)) (mod-lt (b ^ e) positive)

  -- An inverse is below the prime.
  pub inverse_below : (a : ℕ) → inverse K a < K.modulus
  inverse_below a = power_below a (K.modulus - 2)

  -- ---- the residue of a code

  -- A code below the prime is its own residue.
  pub residue_of_small : (c : ℕ) → c < K.modulus → residue K c ≡ c
  residue_of_small c l = mod-eq_of_lt l

  -- From any other code the prime is taken off.
  pub residue_of_large : (c : ℕ) → K.modulus ≤ c → c < 256 ^ K.code_bytes → residue K c ≡ c - K.modulus
  residue_of_large c l u = mod-eq-sub-mod l ∙ mod-eq_of_lt (omega (arith, K.twice))

  -- ---- a number may be reduced before it is used

  -- What is added may be reduced first.
  pub plus_reduced : (a b : ℕ) → plus K a (b % K.modulus) ≡ plus K a b
  plus_reduced a b = add-mod-mod a b K.modulus

  -- What is taken off may be reduced first.
  pub minus_reduced : (a b : ℕ) → minus K a (b % K.modulus) ≡ minus K a b
  minus_reduced a b = ap (λ (x : ℕ). (a + (K.modulus - x)) % K.modulus) (mod-mod b K.modulus)

  -- A sum, a product of codes is that of their residues.
  pub plus_residues : (a b : ℕ) → plus K (residue K a) (residue K b) ≡ plus K a b
  plus_residues a b = sym (add-mod a b K.modulus)

  -- A difference, with what was taken off added again, is what there was.
  pub minus_then_plus : (a b : ℕ) → plus K (minus K a b) b ≡ residue K a
  minus_then_plus a b = subtract_then_add K.modulus positive a b

  -- ---- the power, halving by halving

  -- The power with the exponent 0 is 1.
  pub power_zero : (b : ℕ) → power K b 0 ≡ 1
  power_zero b = power_is b 0 ∙ ap (λ (x : ℕ). x % K.modulus) (pow-zero b) ∙ mod-eq_of_lt K.prime.above_one

  -- The power with the exponent 1 is the residue of the base.
  pub power_one : (b : ℕ) → power K b 1 ≡ residue K b
  power_one b = power_is b 1 ∙ ap (λ (x : ℕ). x % K.modulus) (pow_one b)

  -- The square of half the exponent's power is the power, where the exponent is even.
  pub power_even_step : (b e : ℕ) {h s : ℕ} → h ≡ power K b (e / 2) → s ≡ times K h h → e % 2 ≡ 0 → s ≡ power K b e
  power_even_step b e eh es even = power_even K.modulus b e (eh ∙ power_is b (e / 2)) es even ∙ sym (power_is b e)

  -- Where it is odd, one more factor makes it the power.
  pub power_odd_step : (b e : ℕ) {h s r : ℕ} → h ≡ power K b (e / 2) → s ≡ times K h h → r ≡ times K s b → (e % 2 ≡ 0 → ⊥) → r ≡ power K b e
  power_odd_step b e eh es er odd = power_odd K.modulus b e (eh ∙ power_is b (e / 2)) es er odd ∙ sym (power_is b e)

  -- ---- inverses

  -- The inverse inverts whatever the prime does not divide.
  pub inverse_inverts : (a : ℕ) → (K.modulus ∣ a → ⊥) → times K a (inverse K a) ≡ 1
  inverse_inverts a na =
      ap (λ (x : ℕ). (a * x) % K.modulus) (power_is a (K.modulus - 2)) ∙ mul-mod_second a (a ^ (K.modulus - 2)) K.modulus
      ∙ inverse_is_power K.modulus K.prime a na

  -- The inverse of 0 is 0.
  pub inverse_zero : inverse K 0 ≡ 0
  inverse_zero = power_is 0 (K.modulus - 2) ∙ inverse_of_zero K.modulus K.prime K.odd

  -- The inverse of a code is that of its residue.
  pub inverse_residue : (a : ℕ) → inverse K (residue K a) ≡ inverse K a
  inverse_residue a = power_is (residue K a) (K.modulus - 2) ∙ pow-mod a (K.modulus - 2) K.modulus ∙ sym (power_is a (K.modulus - 2))

  -- A table that passes the test holds the inverse of i + 1 at each entry i.
  pub inverse_entry : {A : Type 0} (val : A → ℕ) (d : A) (table : List A) → inverses_right K val table ≡ true → (i : ℕ) → i < length table
      → val (get_or table i d) ≡ inverse_at K i
  unfolding inverses_right
  inverse_entry val d table t i l = eqb→eq (val (get_or table i d)) (inverse_at K i) (at_entry _ d table (subst T (sym t) tt) i l)

  -- The inverse of i + 1 may be taken of what the prime leaves of i, and 1.
  pub inverse_past : (i : ℕ) → inverse K (plus K (residue K (residue K i)) (residue K 1)) ≡ inverse_at K i
  inverse_past i = ap (inverse K) (plus_residues (residue K i) 1 ∙ mod-add-mod i K.modulus 1) ∙ inverse_residue (i + 1)

-- The wrapped difference of two counts, from what the wrapping subtraction of 32 bits says of it.
pub count_down : (a b r : ℕ) → (r + b) % 2 ^ 32 ≡ a → r < 2 ^ 32 → b < 2 ^ 32 → r ≡ difference counts a b
count_down a b r e h l = omega arith

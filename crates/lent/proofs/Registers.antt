-- Signed numbers of 32 bits: what stands in a register for one is the number itself, and its size is the number past -1 and one.
-- Assumes nothing.
use Prim.Native.Nat.{ℕ, zero, suc, ◌-◌, ◌<◌, ◌≤◌, ◌^◌}
use mathlib.Core.Path.{◌≡◌, refl, sym, ◌∙◌, ap}
use mathlib.Core.Bool.{true, false}
use native.Mathlib.Nat.{zero-add}
use native.Mathlib.Omega.{arith}
use lib.IntN.{ℤ, pos, negsuc, ◌-ℤ◌}
use lib.Signed.{lt_z}
use mir.Syntax.{w32}
use mir.Val.{SFits, to_z, of_z}
use mir.ValLaws.{to_z-of_z}
use borrow.Author.Tests.{le-ltb, lt-ltb, ltb-true}
use Rattle.rules.specs.Signed.{signed_count}
use Rattle.rules.proofs.Negation.{signed_negative}

-- A number below 2^31 stands in a register as itself.
pub low : (n : ℕ) → n < 2 ^ 31 → to_z w32 n ≡ pos n
low n l = simp (lt-ltb n 2147483648 l)

-- ---- a signed number as it stands in a register

module _ (z : ℤ) (f : SFits w32 z) where
  -- What a register holds for it.
  abbrev held : ℤ
  held = to_z w32 (of_z w32 z)

  -- A negative one: how far past -1 it is, which -1 less it says, and its size.
  pub record Negative : Type 0 where
    pub past : ℕ
    pub small : past < 2 ^ 31
    pub is : z ≡ negsuc past
    pub flipped : negsuc 0 -ℤ held ≡ pos past

  -- One that is not.
  pub record Natural : Type 0 where
    pub number : ℕ
    pub small : number < 2 ^ 31
    pub is : z ≡ pos number
    pub holds : held ≡ pos number

  -- -1 less a negative number.
  flip : (n : ℕ) → negsuc 0 -ℤ negsuc n ≡ pos n
  flip n = simp (le-ltb (suc n) 1 (omega arith)) (ap pos (omega arith))

  -- A number that tests as negative is.
  pub negative : lt_z held (pos 0) ≡ true → Negative
  negative t = by_sign z f (ap (λ (y : ℤ). lt_z y (pos 0)) (sym (to_z-of_z w32 z f)) ∙ t) refl
    where
      by_sign : (y : ℤ) → SFits w32 y → lt_z y (pos 0) ≡ true → z ≡ y → Negative
      by_sign (pos n) g e s = absurd (omega (arith, ltb-true n 0 e))
      by_sign (negsuc n) g e s =
          record { past = n; small = g.sfits; is = s; flipped = ap (λ (y : ℤ). negsuc 0 -ℤ y) (to_z-of_z w32 z f ∙ s) ∙ flip n }

  -- One that does not, is not.
  pub natural : lt_z held (pos 0) ≡ false → Natural
  natural t = by_sign z f (ap (λ (y : ℤ). lt_z y (pos 0)) (sym (to_z-of_z w32 z f)) ∙ t) refl
    where
      by_sign : (y : ℤ) → SFits w32 y → lt_z y (pos 0) ≡ false → z ≡ y → Natural
      by_sign (pos n) g e s = record { number = n; small = g.sfits; is = s; holds = to_z-of_z w32 z f ∙ s }
      by_sign (negsuc n) g e s = let x : ◌≡◌ {A = ℕ} 0 1 = cc in absurd (omega arith)

-- ---- a count read as a signed number

-- -1 less a number. The library's lemma that says the same is private to its file.
down : (n : ℕ) → negsuc 0 -ℤ pos n ≡ negsuc n
down zero = refl
down (suc n) = ap (λ (x : ℕ). negsuc (suc x)) (zero-add n)

-- -1 less a number below 2^31.
pub under : (n : ℕ) → n < 2 ^ 31 → negsuc 0 -ℤ to_z w32 n ≡ negsuc n
under n l = ap (λ (y : ℤ). negsuc 0 -ℤ y) (low n l) ∙ down n

-- A count from 2^31 on: -1 less what it lacks of the greatest count.
pub upper : (c : ℕ) → c < 2 ^ 32 → 2147483648 ≤ c → to_z w32 (of_z w32 (negsuc 0 -ℤ to_z w32 (4294967295 - c))) ≡ signed_count c
upper c u l =
    ap (λ (y : ℤ). to_z w32 (of_z w32 y)) (under (4294967295 - c) (omega arith))
    ∙ to_z-of_z w32 (negsuc (4294967295 - c)) (record { sfits = omega arith }) ∙ ap negsuc (omega arith) ∙ sym (signed_negative c l u)

-- Half the exponent's power, squared, and once more times the base where the exponent is odd, is the power.
use Rattle.std.proofs.Common.{ℕ, zero, suc, ◌<◌, ◌≡◌, ◌+◌, ◌/◌, ◌%◌, ◌≤◌, refl, ap, ap₂, sym, ◌∙◌, arith}
use Rattle.std.proofs.Math.Nat.{mod-lt}
use Rattle.rules.specs.Field.{power, times, multiplications, multiplications_within}
use Rattle.rules.proofs.Field.{power_zero, power_one, power_even_step, power_odd_step}
use Rattle.rules.proofs.Multiplications.{multiplications_step, digits}
use Rattle.modint.specs.declared.Residue.{Residue}
use Rattle.modint.specs.declared.Powered.{Powered}
use Rattle.modint.specs.Width.{Width}
use Rattle.modint.specs.Answers.{val, wrap, powered}
use Rattle.modint.proofs.Residues.{number}
use Rattle.modint.proofs.Residue.+raised.Goals as goal

-- An exponent of 64 bits takes at most 128 multiplications.
multiplications_few : (e : ℕ) → e < 18446744073709551616 → multiplications e ≤ 128
unfolding multiplications multiplications_within
multiplications_few zero l = omega arith
multiplications_few (suc e) l = let d = digits 64 (suc e) (λ z. omega arith) l in omega (arith, d.told, d.at_most)

module _ {W : Type 0} (w : Width W) where
  -- A power is its value and its multiplications.
  made : (b e : ℕ) {v : Residue W} {n : ℕ} → val w v ≡ power w.kind b e → n ≡ multiplications e
      → record { value = v; multiplications = n } ≡ powered w b e
  made b e {v} {n} ev en =
      let word : v.0 ≡ w.of (power w.kind b e) = sym (w.of_num v.0) ∙ ap w.of ev in
      ap₂ (λ (x : W) (n : ℕ). record { value = record { 0 = x }; multiplications = n }) word en

  -- An exponent from 2 on, whose half's power is known.
  module _ (b e : ℕ) (large : 2 ≤ e) {half : Powered W} (h : half ≡ powered w b (e / 2)) where
    root : val w half.value ≡ power w.kind b (e / 2)
    root = ap (λ (r : Powered W). val w r.value) h ∙ w.num_of _

    count : multiplications e ≡ half.multiplications + 1 + e % 2
    count = multiplications_step e large ∙ ap (λ (r : Powered W). r.multiplications + 1 + e % 2) (sym h)

    -- The count that is written fits.
    few : e < 18446744073709551616 → half.multiplications + 2 < 4294967296
    few l = omega (arith, count, multiplications_few e l, mod-lt e {m = 2} (omega arith))

    -- The square is the power where the exponent is even.
    even : {s : Residue W} → s ≡ wrap w (times w.kind (val w half.value) (val w half.value)) → e % 2 ≡ 0
        → record { value = s; multiplications = half.multiplications + 1 } ≡ powered w b e
    even es z = made b e (power_even_step w.kind b e root (number w es) z) (omega (arith, count, z))

    -- Where it is odd, one factor more.
    odd : {s r : Residue W} → s ≡ wrap w (times w.kind (val w half.value) (val w half.value)) → r ≡ wrap w (times w.kind (val w s) b)
        → (e % 2 ≡ 0 → ⊥) → record { value = r; multiplications = half.multiplications + 2 } ≡ powered w b e
    odd es er o = made b e (power_odd_step w.kind b e root (number w es) (number w er) o) (omega (arith, count, o, mod-lt e {m = 2} (omega arith)))

pub returns-then-exponent-eq0 : goal.returns-then-exponent-eq0
unfolding multiplications multiplications_within
returns-then-exponent-eq0 g t c =
    let w = g.W.Word.width in rw c.if-exponent-eq0.true (made w _ 0 (c.one.ensures ∙ sym (power_zero w.kind _)) refl)

pub returns-then-exponent-eq1 : goal.returns-then-exponent-eq1
unfolding multiplications multiplications_within
returns-then-exponent-eq1 g t c =
    let w = g.W.Word.width in rw c.if-exponent-eq1.true (made w _ 1 (c.below.ensures ∙ sym (power_one w.kind _)) refl)

pub overflow_add-result : goal.overflow_add-result
overflow_add-result g t c =
    let w = g.W.Word.width in
    record { fits = omega (arith, few w (val w c.args.self) c.args.exponent (omega arith) c.raised-half.ensures c.ranges.exponent.fits) }

pub returns-then-exponent-eq0-2 : goal.returns-then-exponent-eq0-2
returns-then-exponent-eq0-2 g t c =
    let w = g.W.Word.width in
    even w (val w c.args.self) c.args.exponent (omega arith) c.raised-half.ensures c.mul-square.ensures c.if-exponent-eq0-2.true

pub overflow_add-result-2 : goal.overflow_add-result-2
overflow_add-result-2 g t c =
    let w = g.W.Word.width in
    record { fits = few w (val w c.args.self) c.args.exponent (omega arith) c.raised-half.ensures c.ranges.exponent.fits }

pub returns : goal.returns
returns g t c =
    let w = g.W.Word.width in
    odd w (val w c.args.self) c.args.exponent (omega arith) c.raised-half.ensures c.mul-square.ensures c.mul.ensures c.if-exponent-eq0-2.false

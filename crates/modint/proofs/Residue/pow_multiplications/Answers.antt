-- The digits of an exponent that is not 0 tell its number of multiplications.
use Rattle.std.proofs.Common.{◌≡◌, ◌<◌, ℕ, sym, ap, ◌∙◌, arith}
use Rattle.rules.specs.Field.{multiplications, multiplications_within}
use Rattle.rules.proofs.Multiplications.{Digits, digits}
use Rattle.modint.proofs.Residue.pow_multiplications.Goals as goal

-- What is known of the digits of an exponent that is not 0.
known : (e : ℕ) → (e ≡ 0 → ⊥) → e < 18446744073709551616 → Digits 64 e
known e some l = digits 64 e some l

pub returns-then-exponent-eq0 : goal.returns-then-exponent-eq0
unfolding multiplications multiplications_within
returns-then-exponent-eq0 g c = ap multiplications (sym c.if-exponent-eq0.true ∙ c.number-exponent.ensures.number)

pub overflow_sub-result-2 : goal.overflow_sub-result-2
overflow_sub-result-2 g c = (known _ c.if-exponent-eq0.false c.number-exponent.type_inv).some_set

pub returns : goal.returns
returns g c =
    let d = known _ c.if-exponent-eq0.false c.number-exponent.type_inv in
    rw (sym c.number-exponent.ensures.number) (omega (arith, d.some_set))

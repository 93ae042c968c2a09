-- How often x is a root of a polynomial modulo p: how often t - x can be divided out of it.
-- Assumes nothing.
use Rattle.std.specs.Prelude.{ℕ, zero, suc, ◌+◌, ◌*◌, ◌%◌, cond, List, [], ◌∷◌, eqb, length}
use Rattle.newton.specs.Polynomial.{horner, entry}

-- The polynomial with the leading coefficient and the further ones given, divided by t - x modulo p: Horner's values after the first, which is the
-- quotient's leading coefficient too, and without the last, which is the remainder.
abbrev pub quotient : ℕ → ℕ → ℕ → List ℕ → List ℕ
quotient p x leading [] = []
quotient p x leading (a ∷ []) = []
quotient p x leading (a ∷ b ∷ cs) = let value = (x * leading + a) % p in value ∷ quotient p x value (b ∷ cs)

-- How often t - x can be divided out, at most f times, of the polynomial with the leading coefficient 1 and the further coefficients given.
abbrev pub multiplicity : ℕ → ℕ → ℕ → List ℕ → ℕ
multiplicity p x zero cs = 0
multiplicity p x (suc f) cs = cond (eqb (horner (entry (1 ∷ cs)) x (length cs) % p) 0) (suc (multiplicity p x f (quotient p x 1 cs))) 0

-- Polynomials modulo a number p, by their coefficients, the leading one first. The negative of r is written p - r.
-- Assumes nothing.
use Rattle.std.specs.Prelude.{ℕ, zero, suc, ◌+◌, ◌-◌, ◌*◌, ◌^◌, List, [], ◌∷◌, length, get_or}

-- The coefficient of x^(n - k) in the product of the factors x + (p - r), one for each of the n members r; the leading one is coefficient 0.
abbrev pub coefficient : ℕ → List ℕ → ℕ → ℕ
coefficient p [] zero = 1
coefficient p [] (suc k) = 0
coefficient p (r ∷ rs) zero = coefficient p rs zero
coefficient p (r ∷ rs) (suc k) = coefficient p rs (suc k) + (p - r) * coefficient p rs k

-- That product's value at x.
abbrev pub product : ℕ → List ℕ → ℕ → ℕ
product p [] x = 1
product p (r ∷ rs) x = (x + (p - r)) * product p rs x

-- Horner's value at x of the polynomial of degree n with the coefficients f 0, the leading one, to f n.
abbrev pub horner : (ℕ → ℕ) → ℕ → ℕ → ℕ
horner f x zero = f 0
horner f x (suc n) = x * horner f x n + f (suc n)

-- The sum f 0 · g k + f 1 · g (k - 1) + .. + f (k - 1) · g 1.
abbrev pub convolution : (ℕ → ℕ) → (ℕ → ℕ) → ℕ → ℕ
convolution f g zero = 0
convolution f g (suc k) = f 0 * g (suc k) + convolution (λ j. f (suc j)) g k

-- A list of coefficients as the function that Horner's value takes: entry k, and 0 past the end.
abbrev pub entry : List ℕ → ℕ → ℕ
entry cs k = get_or cs k 0

-- The terms below the leading one: a₁ · x^(n - 1) + .. + aₙ for the list a₁, .. aₙ.
abbrev pub lower_terms : ℕ → List ℕ → ℕ
lower_terms x [] = 0
lower_terms x (a ∷ cs) = a * x ^ length cs + lower_terms x cs

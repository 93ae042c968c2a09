-- Coefficients, values, and the entries of a log that a sketch lists.
-- Assumes nothing.
use Rattle.std.specs.Prelude.{ℕ, zero, suc, ◌+◌, ◌*◌, ◌%◌, ◌^◌, Bool, cond, List, [], ◌∷◌, reverse, eqb, length, get_or}
use Rattle.newton.specs.Polynomial.{lower_terms}
use Rattle.rules.specs.Kind.{Kind}
use Rattle.rules.specs.Field.{residue, minus, negative, times, inverse}
use Rattle.rules.specs.Sketch.{Sketch, negate, surplus_in}

-- The sums from the first on, times the coefficients from the newest on: s1 · a(i-1) + s2 · a(i-2) + .. + s(i-1) · a1.
abbrev pub products : List ℕ → List ℕ → ℕ
products [] cs = 0
products (s ∷ ss) [] = 0
products (s ∷ ss) (a ∷ cs) = s * a + products ss cs

-- The first i coefficients, the newest first: ai = (-(s1 · a(i-1) + .. + s(i-1) · a1) - si) · the inverse of i.
unfoldable pub newest_first : Kind → List ℕ → ℕ → List ℕ
newest_first K sums zero = []
newest_first K sums (suc i) =
    let cs = newest_first K sums i in
    times K (minus K (negative K (products sums cs)) (get_or sums i 0)) (inverse K (suc i)) ∷ cs

-- The coefficients a1 .. an that sums lead to.
unfoldable pub coefficients : Kind → List ℕ → ℕ → List ℕ
coefficients K sums n = reverse (newest_first K sums n)

-- The value of a1 .. an at a code with residue x: x^n + a1 · x^(n-1) + .. + an.
unfoldable pub evaluate : Kind → List ℕ → ℕ → ℕ
evaluate K cs c = (residue K c ^ length cs + lower_terms (residue K c) cs) % K.modulus

-- The entries of a list that pass a test, as they stand, in their order, repeats kept.
abbrev pub keep : (ℕ → Bool) → List ℕ → List ℕ
keep test [] = []
keep test (c ∷ log) = cond (test c) (c ∷ keep test log) (keep test log)

-- What a sketch lists of a log: nothing for the count 0, whatever the sums; otherwise exactly the entries at which the value of its coefficients,
-- as many as the count says, is 0.
unfoldable pub decode : Kind → Sketch → List ℕ → List ℕ
decode K s log = cond (eqb s.count 0) [] (keep (λ c. eqb (evaluate K (coefficients K s.sums s.count) c) 0) log)

-- What a sketch lists of got codes as surplus: nothing where its signed count is 0 or more; otherwise what the negated sketch lists of them.
unfoldable pub surplus : Kind → Sketch → List ℕ → List ℕ
surplus K s got = cond (eqb (surplus_in s) 0) [] (decode K (negate K s) got)

-- Division by t - x: at a root it leaves the coefficients of the rest, and it can be done as often as the root is a member.
-- Assumes nothing.
use Prim.Native.Nat.{ℕ, zero, suc, ◌+◌, ◌-◌, ◌*◌, ◌%◌, ◌^◌, ◌<◌, ◌≤◌}
use mathlib.Core.Path.{◌≡◌, refl, sym, ◌∙◌, ap}
use mathlib.Core.Bool.{Bool, true, false, cond}
use mathlib.Core.List.{List, [], ◌∷◌, Permᴰ}
use native.Mathlib.Nat.{pow-zero, pow-succ', mod-mod, add-mul-mod_self_left}
use native.Mathlib.Omega.{arith}
use lib.Dec.{eqb}
use lib.ListN.{length}
use borrow.Author.Tests.{eqb-true, eqb-false}
use Rattle.numbers.specs.Prime.{IsPrime}
use Rattle.numbers.proofs.Congruence.{add_congruent, mul_congruent}
use Rattle.newton.specs.Members.{AllBelow, count}
use Rattle.newton.specs.Polynomial.{coefficient, product, horner, entry, lower_terms}
use Rattle.newton.specs.Multiplicity.{quotient, multiplicity}
use Rattle.newton.proofs.Roots.{member_is_root, root_is_member}
use Rattle.newton.proofs.Permutation.{extract, length_permuted, all_below_permuted, coefficient_permuted, count_permuted, count_of_first, count_of_none}
use Rattle.newton.proofs.Recurrence.{horner_congruent, value_is_product}

-- ---- lists of coefficients

-- Horner's value may take its first step on the list.
pub horner_of_list : (a b : ℕ) (cs : List ℕ) (x n : ℕ) → horner (entry (a ∷ b ∷ cs)) x (suc n) ≡ horner (entry ((x * a + b) ∷ cs)) x n
horner_of_list a b cs x zero = refl
horner_of_list a b cs x (suc n) = ap (λ (z : ℕ). x * z + entry cs n) (horner_of_list a b cs x n)

-- The sum of the terms is Horner's value.
pub value_as_horner : (x a : ℕ) (cs : List ℕ) → a * x ^ length cs + lower_terms x cs ≡ horner (entry (a ∷ cs)) x (length cs)
value_as_horner x a [] = omega (arith, ap (λ (z : ℕ). a * z) (pow-zero x))
value_as_horner x a (b ∷ cs) =
    omega (arith, ap (λ (z : ℕ). a * z) (pow-succ' x (length cs))) ∙ value_as_horner x (x * a + b) cs ∙ sym (horner_of_list a b cs x (length cs))

-- ---- one division

-- Horner's values at a root are the coefficients of the product over the other members.
pub deflate : (p r : ℕ) (rs : List ℕ) → r ≤ p → (k : ℕ) → horner (coefficient p (r ∷ rs)) r k % p ≡ coefficient p rs k % p
deflate p r rs l zero = refl
deflate p r rs l (suc k) =
    add_congruent p (r * horner (coefficient p (r ∷ rs)) r k) (r * coefficient p rs k) next next
    (mul_congruent p r r (horner (coefficient p (r ∷ rs)) r k) (coefficient p rs k) refl (deflate p r rs l k)) refl
    ∙ ap (λ (z : ℕ). z % p) (collected (p - r) (coefficient p rs k) (coefficient p rs (suc k)) (omega arith))
    ∙ add-mul-mod_self_left (coefficient p rs (suc k)) p (coefficient p rs k)
  where
    next : ℕ
    next = coefficient p (r ∷ rs) (suc k)

    collected : (s a b : ℕ) → r + s ≡ p → r * a + (b + s * a) ≡ b + p * a
    collected s a b e = omega (arith, ap (λ (z : ℕ). z * a) e)

module _ (p x : ℕ) where
  length_of_quotient : (a : ℕ) (cs : List ℕ) → length (quotient p x a cs) ≡ length cs - 1
  length_of_quotient a [] = refl
  length_of_quotient a (b ∷ []) = refl
  length_of_quotient a (b ∷ d ∷ cs) = omega (arith, length_of_quotient ((x * a + b) % p) (d ∷ cs))

  -- The quotient's coefficients are Horner's values.
  quotient_is_horner : (a : ℕ) (cs : List ℕ) (k : ℕ) → k < length cs → entry (a ∷ quotient p x a cs) k % p ≡ horner (entry (a ∷ cs)) x k % p
  quotient_is_horner a cs zero l = refl
  quotient_is_horner a [] (suc k) l = absurd (omega arith)
  quotient_is_horner a (b ∷ []) (suc k) l = absurd (omega arith)
  quotient_is_horner a (b ∷ d ∷ cs) (suc k) l =
      quotient_is_horner ((x * a + b) % p) (d ∷ cs) k (omega arith)
      ∙ horner_congruent p (entry ((x * a + b) % p ∷ d ∷ cs)) (entry ((x * a + b) ∷ d ∷ cs)) x k reduced
      ∙ ap (λ (z : ℕ). z % p) (sym (horner_of_list a b (d ∷ cs) x k))
    where
      reduced : (j : ℕ) → j ≤ k → entry ((x * a + b) % p ∷ d ∷ cs) j % p ≡ entry ((x * a + b) ∷ d ∷ cs) j % p
      reduced zero u = mod-mod (x * a + b) p
      reduced (suc j) u = refl

-- ---- as often as the member

-- The leading coefficient 1 and f further ones are congruent to those of the product over the f members.
record Matches (p f : ℕ) (cs rs : List ℕ) : Type 0 where
  further : length cs ≡ f
  members : length rs ≡ f
  below : AllBelow p rs
  congruent : (k : ℕ) → k ≤ f → entry (1 ∷ cs) k % p ≡ coefficient p rs k % p

-- Divided by t - x, they match the other members.
divided : (p f x : ℕ) (cs rs rest : List ℕ) → x < p → Matches p (suc f) cs rs → Permᴰ rs (x ∷ rest) → Matches p f (quotient p x 1 cs) rest
divided p f x cs rs rest small m permuted =
    record {
      further = omega (arith, length_of_quotient p x 1 cs);
      members = omega (arith, length_permuted permuted);
      below = (all_below_permuted p permuted m.below).1;
      congruent = λ k l. quotient_is_horner p x 1 cs k (omega arith)
          ∙ horner_congruent p (entry (1 ∷ cs)) (coefficient p (x ∷ rest)) x k
          (λ j u. m.congruent j (omega arith) ∙ ap (λ (z : ℕ). z % p) (coefficient_permuted p permuted j))
          ∙ deflate p x rest (omega arith) k;
    }

module _ (p : ℕ) (P : IsPrime p) (x : ℕ) (small : x < p) where
  by_divisions : (f : ℕ) (cs rs : List ℕ) → Matches p f cs rs → multiplicity p x f cs ≡ count x rs
  by_divisions zero cs [] m = refl
  by_divisions zero cs (r ∷ rs) m = absurd (omega arith)
  by_divisions (suc f) cs rs m = by_value (eqb value 0) refl (by_divisions f (quotient p x 1 cs))
    where
      value : ℕ
      value = horner (entry (1 ∷ cs)) x (length cs) % p

      value_of_members : value ≡ product p rs x % p
      value_of_members = value_is_product p (entry (1 ∷ cs)) rs x (length cs) (m.further ∙ sym m.members) (λ k l. m.congruent k (omega arith))

      by_value : (root : Bool) → eqb value 0 ≡ root
          → ((rest : List ℕ) → Matches p f (quotient p x 1 cs) rest → multiplicity p x f (quotient p x 1 cs) ≡ count x rest)
          → cond root (suc (multiplicity p x f (quotient p x 1 cs))) 0 ≡ count x rs
      by_value true t later =
          let found = extract x rs (root_is_member p P rs x m.below small (sym value_of_members ∙ eqb-true value 0 t)) in
          ap suc (later found.0 (divided p f x cs rs found.0 small m found.1))
          ∙ sym (count_permuted x found.1 ∙ count_of_first x found.0)
      by_value false t later = sym (count_of_none x rs (λ member. eqb-false value 0 t (value_of_members ∙ member_is_root p m.below member)))

  -- Where the coefficients are those of the product over the members, t - x can be divided out as often as x is among them.
  pub multiplicity_is_count : (f : ℕ) (cs rs : List ℕ) → length cs ≡ f → length rs ≡ f → AllBelow p rs
      → ((k : ℕ) → k ≤ f → entry (1 ∷ cs) k % p ≡ coefficient p rs k % p) → multiplicity p x f cs ≡ count x rs
  multiplicity_is_count f cs rs further members below congruent =
      by_divisions f cs rs (record { further = further; members = members; below = below; congruent = congruent })

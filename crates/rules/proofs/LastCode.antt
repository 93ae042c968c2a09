-- The last code after a removal: it is forgotten exactly where it is the residue of the code removed.
-- Assumes nothing.
use Prim.Native.Nat.{ℕ}
use mathlib.Core.Path.{◌≡◌, refl, sym}
use native.Mathlib.Omega.{arith}
use borrow.Author.Tests.{eq-eqb, ne_eqb}
use Rattle.rules.specs.Kind.{Kind, kind32}
use Rattle.rules.specs.Field.{residue}
use Rattle.rules.specs.Sketch.{Sketch, nothing, code, fresh, insert, remove}

module _ (K : Kind) (s : Sketch) where
  -- Where the last code is the residue of the code removed, there is none.
  pub last_forgotten : (x c : ℕ) → s.last ≡ code x → residue K c ≡ x → (remove K s c).last ≡ nothing
  unfolding remove
  last_forgotten x c e h = rw (e, eq-eqb x (residue K c) (sym h))

  -- Where it is another, it stays.
  pub last_kept : (x c : ℕ) → s.last ≡ code x → (residue K c ≡ x → ⊥) → (remove K s c).last ≡ code x
  unfolding remove
  last_kept x c e h = rw (e, ne_eqb x (residue K c) (λ q. h (sym q)))

  -- Where there is none, none comes.
  pub none_stays : (c : ℕ) → s.last ≡ nothing → (remove K s c).last ≡ nothing
  unfolding remove
  none_stays c e = rw e

  -- A code put in and taken out again, or another of its residue in its place, leaves no last code.
  pub put_in_and_taken_out : (c d : ℕ) → residue K d ≡ residue K c → (remove K (insert K s c) d).last ≡ nothing
  unfolding insert remove
  put_in_and_taken_out c d h = rw (eq-eqb (residue K c) (residue K d) (sym h))

-- ---- each of them at its limit, the greatest code, whose residue is 4

-- A sketch with the greatest code inserted.
abbrev large : Sketch
large = insert kind32 (fresh 1) 4294967295

-- It is forgotten where it is taken out, and where its residue is.
pub greatest_code_out : ((remove kind32 large 4294967295).last ≡ nothing) × ((remove kind32 large 4).last ≡ nothing)
unfolding insert
greatest_code_out = (put_in_and_taken_out kind32 (fresh 1) 4294967295 4294967295 refl, last_forgotten kind32 large 4 4 refl refl)

-- It stays where the code before it, or the code behind its residue, is taken out.
pub next_codes_out : ((remove kind32 large 4294967294).last ≡ code 4) × ((remove kind32 large 5).last ≡ code 4)
unfolding insert
next_codes_out = (last_kept kind32 large 4 4294967294 refl (λ e. omega arith), last_kept kind32 large 4 5 refl (λ e. omega arith))

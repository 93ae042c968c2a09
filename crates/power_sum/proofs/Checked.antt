-- A sketch that is tested first: what is known after the test, and what a `?` hands on where the test refuses.
-- Assumes nothing.
use Rattle.std.proofs.Common.{◌≡◌, Bool, true, false, Result, Ok, Err, sym, ◌∙◌, refl}
use Rattle.std.specs.Result.{IsErr, IsErrAnd}
use Rattle.std.proofs.lemmas.Result.{err_from_is_err_and}
use Rattle.modint.specs.Width.{Width}
use Rattle.rules.specs.Calls.{unless, given}
use Rattle.lent.specs.Refusals.{changed}
use Rattle.lent.specs.declared.refusal.Refusal.{Refusal}
use Rattle.lent.specs.declared.refusal.Refusal.TheVariants.{NotWellFormed}
use Rattle.power_sum.specs.declared.power_sum.PowerSumQuack.{PowerSumQuack}
use Rattle.power_sum.specs.Answers.{well_formed_of, checked_of}

-- What a `?` returns is the refusal that it met.
pub handed_on : {A E : Type 0} {x : E} (r : Result A E) → IsErr r × IsErrAnd r (λ e. e ≡ x) → r ≡ Err x
handed_on r h = let p = err_from_is_err_and r h.1 in rw (p.1, p.2)

module _ {W : Type 0} (w : Width W) (s : PowerSumQuack W) where
  by_test : (ok : Bool) {a : Unit {0}} → Ok a ≡ changed (unless ok 12 (given s)) → ok ≡ true
  by_test true e = refl
  by_test false e = cc

  by_failure : (ok : Bool) {e : Refusal} → Err e ≡ changed (unless ok 12 (given s)) → (ok ≡ false) × (e ≡ NotWellFormed)
  by_failure true e = cc
  by_failure false e = (refl, cc)

  -- A sketch that passed is well formed.
  pub passed : {r : Result (Unit {0}) Refusal} {a : Unit {0}} → r ≡ checked_of w s → r ≡ Ok a → well_formed_of w s ≡ true
  passed e ok = by_test (well_formed_of w s) (sym ok ∙ e)

  -- One that did not is not well formed, and the call is refused for that.
  pub failed : {A : Type 0} {r : Result (Unit {0}) Refusal} {e : Refusal} (answer : Result A Refusal) → r ≡ checked_of w s → r ≡ Err e
      → IsErr answer × IsErrAnd answer (λ d. d ≡ e) → (well_formed_of w s ≡ false) × (answer ≡ Err NotWellFormed)
  failed answer said err handed =
      let p = by_failure (well_formed_of w s) (sym err ∙ said) in
      (p.0, handed_on answer handed ∙ rw p.1)

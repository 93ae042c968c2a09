-- What C is handed by a call that answers a value.
-- Assumes nothing.
use Rattle.std.proofs.Common.{◌≡◌, ℕ, Result, refl, ap, ◌∙◌}
use Rattle.rules.specs.Calls.{Outcome, refused, given}
use Rattle.rules.proofs.Outcomes.{Numbered, in_table}
use Rattle.lent.specs.declared.refusal.Refusal.{Refusal}
use Rattle.lent.specs.Refusals.{answered}
use Rattle.lent.proofs.Refusals.{number_back}
use Rattle.modint.specs.declared.Residue.{Residue}
use Rattle.modint.specs.Width.{width16}
use Rattle.modint.specs.Answers.{wrap}
use Rattle.exports16_c.specs.declared.evaluator.Evaluated.{Evaluated}
use Rattle.exports16_c.specs.Answers.{valued, evaluated}

value_back : (o : Outcome ℕ) → Numbered o → evaluated (answered (wrap width16) o) ≡ valued o
value_back (refused n) h = ap (λ (k : ℕ). record { refusal = k; value = 0 }) (number_back n (in_table n h).0 (in_table n h).1)
value_back (given x) h = refl

-- The value of the rule, or the number of its refusal and 0.
pub value_handed : (o : Outcome ℕ) {r : Result (Residue ℕ) Refusal} {e : Evaluated} → Numbered o → r ≡ answered (wrap width16) o → e ≡ evaluated r → e ≡ valued o
value_handed o h er ee = ee ∙ ap (λ (r : Result (Residue ℕ) Refusal). evaluated r) er ∙ value_back o h

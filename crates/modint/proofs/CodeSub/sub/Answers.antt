-- The difference of the residues of both codes.
use Rattle.std.proofs.Common.{ℕ, ap₂, ◌∙◌}
use Rattle.rules.specs.Field.{minus}
use Rattle.modint.specs.Answers.{wrap}
use Rattle.modint.proofs.Residues.{number}
use Rattle.modint.proofs.CodeSub.sub.Goals as goal

pub returns : goal.returns
returns g c =
    let w = g.W.Word.width in
    c.sub.ensures ∙ ap₂ (λ (a b : ℕ). wrap w (minus w.kind a b)) (number w c.reduce.ensures) (number w c.reduce-2.ensures)

-- What a test of a function's answer tells of the rule.
-- Assumes nothing.
use mathlib.Core.Path.{◌≡◌, sym, ◌∙◌}
use mathlib.Core.Bool.{Bool, true, false, not}
use borrow.Author.Tests.{not-true, not-false}

-- What a negated test of a function's answer tells of the rule that the answer equals.
pub passed : {answer rule : Bool} → answer ≡ rule → not answer ≡ false → rule ≡ true
passed {answer} e t = sym e ∙ not-false answer t

-- Where the negated test passes, the rule is false.
pub failed : {answer rule : Bool} → answer ≡ rule → not answer ≡ true → rule ≡ false
failed {answer} e t = sym e ∙ not-true answer t

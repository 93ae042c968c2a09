-- The whole input as one piece, which is not refused.
use Rattle.std.proofs.Common.{ℕ, ◌≤◌, ◌≡◌, length, replicate, arith, sym, ap, ◌∙◌}
use Rattle.std.proofs.lemmas.List.{length-replicate}
use Rattle.std.specs.Result.{is_ok}
use mathlib.Core.Bool.{true≢false}
use Rattle.rules.specs.Kind.{kind32}
use Rattle.rules.specs.Calls.{fitting}
use Rattle.desk_rules.specs.Desk.{most_lines}
use Rattle.desk_rules.specs.Text.{desk_answer}
use Rattle.desk_text.specs.Answer.{finish_of}
use Rattle.desk_text.proofs.Meaning.{whole_input, whole_accepted}
use Rattle.desk_text.proofs.answer.answer.Goals.{After-from_residual, After-finish}
use Rattle.desk_text.proofs.answer.answer.Goals as goal

-- The program's own lists have a place for each line that may come.
places : most_lines ≤ length (replicate {A = ℕ} 8192 0)
places = omega (arith, length-replicate {A = ℕ} 8192 0)

-- The input is not refused.
accepted : (c : After-from_residual) → ⊥
accepted c =
    true≢false
    (sym (whole_accepted (replicate 8192 0) (replicate 8192 0) c.args.input.now c.start.result places places c.feed.ensures.answer)
    ∙ ap is_ok c.in_err-reading.was)

pub returns-in_err-reading-clause-answer : goal.returns-in_err-reading-clause-answer
returns-in_err-reading-clause-answer c = absurd (accepted c)

pub returns-in_err-reading-clause-text : goal.returns-in_err-reading-clause-text
returns-in_err-reading-clause-text c = absurd (accepted c)

-- So the text is the rules' answer to it.
ended : (c : After-finish) → finish_of c.in_ok-reading.reading c.feed.new.log c.feed.new.got (length c.args.out.now)
    ≡ fitting (desk_answer kind32 c.args.input.now) (length c.args.out.now)
ended c =
    rw c.in_ok-reading.was
    at (whole_input (replicate 8192 0) (replicate 8192 0) c.args.input.now c.feed.new.log c.feed.new.got c.start.result c.feed.result
    (length c.args.out.now) places places c.start.ensures c.feed.ensures.answer c.feed.ensures.log c.feed.ensures.got)

pub returns-clause-answer : goal.returns-clause-answer
returns-clause-answer c = rw (ended (goal.at.returns-clause-answer c).After-finish) at c.finish.ensures.answer

pub returns-clause-text : goal.returns-clause-text
returns-clause-text c = rw (ended (goal.at.returns-clause-text c).After-finish) at c.finish.ensures.text

-- The writer's laws: texts one behind the other.
-- Assumes nothing.
use Rattle.std.proofs.Common.{ℕ, ◌+◌, ◌^◌, ◌≤◌, ◌<◌, ◌≡◌, List, [], ◌++◌, length, refl, sym, ap, ◌∙◌, arith, ℤ, pos, negsuc, ◌<ℤ◌, ◌≤ℤ◌, nat_abs}
use Rattle.std.proofs.Math.Seq.{paste}
use Rattle.std.proofs.lemmas.List.Edits.{paste_none, paste-paste}
use Rattle.std.proofs.lemmas.List.{length-append}
use Rattle.std.specs.Fmt as std
use Rattle.rules.specs.Calls.{given}
use Rattle.desk_rules.specs.Lines.{threshold_word}
use Rattle.desk_rules.specs.Text.{refusal_word, count_word, found_word, missing_word, surplus_word, entry_word, lines, printed}
use Rattle.desk_text.specs.declared.writer.Writer.{Writer}
use Rattle.desk_text.specs.Writer.{Pushed, line_of}
use Rattle.desk_text.proofs.Digits.{line_printed, signed_printed}

-- No text.
pub pushed_none : (w : Writer) → w.at < 2 ^ 64 → length w.out.now < 2 ^ 64 → Pushed w [] w
pushed_none w u small = record { same = refl; ends = omega arith; long = refl; small = small; stored = λ l. paste_none w.out.now w.at [] }

module _ {before middle : Writer} {text : List ℕ} (p : Pushed before text middle) where
  -- A text behind another.
  pub pushed_then : {more : List ℕ} {after : Writer} → Pushed middle more after → Pushed before (text ++ more) after
  pushed_then {more} q = record {
    same = q.same ∙ p.same;
    ends = omega (arith, p.ends, q.ends, length-append text more);
    long = q.long ∙ p.long;
    small = p.small;
    stored = λ l.
        let fits : before.at + length text ≤ length before.out.now = omega (arith, length-append text more) in
        let here : middle.at ≡ before.at + length text = omega (arith, p.ends, p.small) in
        q.stored (omega (arith, length-append text more, p.long))
        ∙ rw (p.stored fits, here) (paste-paste before.out.now before.at text more (length text) (length more) refl refl (omega arith))
        ∙ ap (paste before.out.now before.at (text ++ more)) (sym (length-append text more));
  }

  -- The same text said another way.
  pub pushed_as : {other : List ℕ} → text ≡ other → Pushed before other middle
  pushed_as e = rw (← e) p

-- ---- the text of a report

-- Entries with a count below zero are surplus.
pub word_of_surplus : (count : ℤ) → count <ℤ pos 0 → entry_word count ≡ surplus_word
word_of_surplus (pos n) l = absurd (grind (arith, l.lt))
word_of_surplus (negsuc n) l = refl

-- Those with any other are missing.
pub word_of_missing : (count : ℤ) → pos 0 ≤ℤ count → entry_word count ≡ missing_word
word_of_missing (pos n) l = refl
word_of_missing (negsuc n) l = absurd (omega arith)

-- Its five parts, one behind the other.
pub report_pushed : {w₀ w₁ w₂ w₃ w₄ w₅ : Writer} (threshold : ℕ) (count : ℤ) (found : List ℕ) → threshold < 2 ^ 64 → nat_abs count < 2 ^ 64
    → length found < 2 ^ 64 → Pushed w₀ (line_of refusal_word (std.decimal 0)) w₁ → Pushed w₁ (line_of threshold_word (std.decimal threshold)) w₂
    → Pushed w₂ (line_of count_word (std.signed_decimal count)) w₃ → Pushed w₃ (line_of found_word (std.decimal (length found))) w₄
    → Pushed w₄ (lines (entry_word count) found) w₅
    → Pushed w₀ (printed (given (record { threshold = threshold; count = count; found = found }))) w₅
unfolding printed
report_pushed threshold count found u v many p₁ p₂ p₃ p₄ p₅ =
    pushed_then (pushed_as p₁ (line_printed refusal_word 0 (omega arith)))
    (pushed_then (pushed_as p₂ (line_printed threshold_word threshold u))
    (pushed_then (pushed_as p₃ (signed_printed count_word count v)) (pushed_then (pushed_as p₄ (line_printed found_word (length found) many)) p₅)))

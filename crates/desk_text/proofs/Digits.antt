-- The digits that std prints are those of the rules.
-- Assumes nothing.
use Rattle.std.proofs.Common.{ℕ, ◌+◌, ◌^◌, ◌<◌, ◌≡◌, List, [], ◌∷◌, ℤ, pos, negsuc, ap, nat_abs, suc, arith, append_assoc}
use Rattle.std.specs.Fmt as std
use Rattle.std.proofs.lemmas.Fmt.{decimal_by_steps}
use Rattle.desk_rules.specs.Text.{decimal, line, signed_line}
use Rattle.desk_rules.proofs.Text.{decimal_digit, decimal_digits}
use Rattle.desk_text.specs.Writer.{line_of}

-- Those of a number of 64 bits.
same_digits : (n : ℕ) → n < 2 ^ 64 → std.decimal n ≡ decimal n
same_digits =
    decimal_by_steps (λ (m : ℕ) (digits : List ℕ). digits ≡ decimal m) (λ m l. rw (decimal_digit m l) (ap (λ (d : ℕ). (48 + d) ∷ []) (omega arith))) (λ m digits l e. rw (decimal_digits m l, e))

-- So a line with them is the rules' line.
pub line_printed : (word : List ℕ) (n : ℕ) → n < 2 ^ 64 → line_of word (std.decimal n) ≡ line word n
unfolding line
line_printed word n u = rw (same_digits n u)

-- A signed number has a minus sign in front of the digits of its size.
pub signed_printed : (word : List ℕ) (z : ℤ) → nat_abs z < 2 ^ 64 → line_of word (std.signed_decimal z) ≡ signed_line word z
unfolding line signed_line
signed_printed word (pos n) u = line_printed word n u
signed_printed word (negsuc n) u = rw (same_digits (suc n) u, append_assoc)

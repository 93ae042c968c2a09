-- The desk's lines as they are printed, read again: the input of a threshold, log codes and got codes is read as these.
-- Assumes nothing.
use Prim.Native.Nat.{ℕ, zero, suc, ◌+◌, ◌-◌, ◌*◌, ◌/◌, ◌^◌, ◌≤◌, ◌<◌}
use mathlib.Core.Path.{◌≡◌, refl, sym, ap, ◌∙◌}
use mathlib.Core.Bool.{Bool, true, false, cond, not, ◌&&◌}
use mathlib.Core.List.{List, [], ◌∷◌, ◌++◌, map, append-nil, append_assoc}
use native.Mathlib.Omega.{arith}
use lib.Dec.{eqb, ltb}
use lib.ListN.{length, length-append}
use borrow.Author.Tests.{le-leb, lt-ltb, ltb-true, ltb-false, eq-eqb, ne_eqb, not-true}
use Rattle.newton.specs.Members.{AllBelow}
use Rattle.rules.specs.Kind.{Kind}
use Rattle.desk_rules.specs.Lines.{LF, threshold_word, log_word, got_word, in_front, cut, greatest_number, all_digits, decimal_value, well_begun, some, number}
use Rattle.desk_rules.specs.Lines.{Line, threshold, log, got, bad, valued, keyed, parsed}
use Rattle.desk_rules.specs.Desk.{most_lines, Seen, unbegun, logs, gots, next, all_lines, closed, read_lines}
use Rattle.desk_rules.specs.Text.{last_digit, decimal_within, decimal, line, lines}
use Rattle.desk_rules.specs.Castle.{input_of}
use Rattle.rules.proofs.Each.{and_first, and_second}

-- ---- a number printed and read again

-- Every byte is a decimal digit.
abbrev Digits : List ℕ → Type 0
Digits [] = Unit {0}
Digits (b ∷ bs) = ((48 ≤ b) × (b ≤ 57)) × Digits bs

-- A last digit behind others.
digits_append : (bs : List ℕ) (b : ℕ) → Digits bs → (48 ≤ b) × (b ≤ 57) → Digits (bs ++ (b ∷ []))
digits_append [] b d last = (last, tt)
digits_append (x ∷ bs) b d last = (d.0, digits_append bs b d.1 last)

-- The last digit of a number is a digit.
last_digit_lem : (n : ℕ) → (48 ≤ last_digit n) × (last_digit n ≤ 57)
last_digit_lem n = (omega arith, omega arith)

-- So are those before it, after any number of divisions.
digits_within : (k n : ℕ) → Digits (decimal_within k n)
unfolding decimal_within
digits_within zero n = (last_digit_lem n, tt)
digits_within (suc k) n = by_size (ltb n 10) (digits_within k (n / 10))
  where
    by_size : (small : Bool) → Digits (decimal_within k (n / 10)) → Digits (cond small (last_digit n ∷ []) (decimal_within k (n / 10) ++ (last_digit n ∷ [])))
    by_size true tenth = (last_digit_lem n, tt)
    by_size false tenth = digits_append (decimal_within k (n / 10)) (last_digit n) tenth (last_digit_lem n)

-- A number is printed in digits only.
digits_decimal : (n : ℕ) → Digits (decimal n)
unfolding decimal
digits_decimal n = digits_within n n

-- Digits pass the test of every byte.
all_digits_lem : (bs : List ℕ) → Digits bs → all_digits bs ≡ true
unfolding all_digits
all_digits_lem [] d = refl
all_digits_lem (b ∷ bs) d = rw (le-leb 48 b d.0.0, le-leb b 57 d.0.1, all_digits_lem bs d.1)

-- The number that digits say, with one digit more.
value_append : (n : ℕ) (bs : List ℕ) (b : ℕ) → decimal_value n (bs ++ (b ∷ [])) ≡ decimal_value n bs * 10 + (b - 48)
unfolding decimal_value
value_append n [] b = refl
value_append n (x ∷ bs) b = value_append (n * 10 + (x - 48)) bs b

-- The digits after enough divisions say the number.
value_within : (k n : ℕ) → n ≤ k → decimal_value 0 (decimal_within k n) ≡ n
unfolding decimal_within decimal_value
value_within zero n l = omega arith
value_within (suc k) n l = by_size (ltb n 10) refl (value_within k (n / 10) (omega arith))
  where
    by_size : (small : Bool) → ltb n 10 ≡ small → decimal_value 0 (decimal_within k (n / 10)) ≡ n / 10
        → decimal_value 0 (cond small (last_digit n ∷ []) (decimal_within k (n / 10) ++ (last_digit n ∷ []))) ≡ n
    by_size true e tenth = omega (arith, ltb-true n 10 e)
    by_size false e tenth = value_append 0 (decimal_within k (n / 10)) (last_digit n) ∙ omega arith

-- What is printed of a number says it.
value_decimal : (n : ℕ) → decimal_value 0 (decimal n) ≡ n
unfolding decimal
value_decimal n = value_within n n (omega arith)

-- The first byte is there, and is not the digit 0.
abbrev Leads : List ℕ → Type 0
Leads [] = ⊥
Leads (b ∷ bs) = b ≡ 48 → ⊥

-- Bytes behind do not change the first.
leads_append : (bs cs : List ℕ) → Leads bs → Leads (bs ++ cs)
leads_append [] cs h = absurd h
leads_append (b ∷ bs) cs h = h

-- Bytes that begin so have no leading zero.
leads_well : (bs : List ℕ) → Leads bs → well_begun bs ≡ true
unfolding well_begun
leads_well [] h = absurd h
leads_well (b ∷ []) h = refl
leads_well (b ∷ (d ∷ bs)) h = rw (ne_eqb b 48 h)

-- The digits of a number above zero begin with another digit than 0.
leads_within : (k n : ℕ) → 0 < n → n ≤ k → Leads (decimal_within k n)
unfolding decimal_within
leads_within zero n positive l = absurd (omega arith)
leads_within (suc k) n positive l = by_size (ltb n 10) refl (λ large. leads_within k (n / 10) (omega arith) (omega arith))
  where
    by_size : (small : Bool) → ltb n 10 ≡ small → (10 ≤ n → Leads (decimal_within k (n / 10)))
        → Leads (cond small (last_digit n ∷ []) (decimal_within k (n / 10) ++ (last_digit n ∷ [])))
    by_size true e tenth = λ nought. omega (arith, ltb-true n 10 e)
    by_size false e tenth = leads_append (decimal_within k (n / 10)) (last_digit n ∷ []) (tenth (ltb-false n 10 e))

-- A number is printed without a leading zero.
well_begun_decimal : (n : ℕ) → well_begun (decimal n) ≡ true
unfolding decimal decimal_within well_begun
well_begun_decimal zero = refl
well_begun_decimal (suc k) = leads_well (decimal_within (suc k) (suc k)) (leads_within (suc k) (suc k) (omega arith) (omega arith))

-- A number printed is read as itself, where it is a code.
pub number_decimal : (K : Kind) (n : ℕ) → n < 256 ^ K.code_bytes → number K (decimal n) ≡ some n
unfolding number
number_decimal K n h =
    rw (well_begun_decimal n, all_digits_lem (decimal n) (digits_decimal n), value_decimal n, le-leb n (greatest_number K) (omega arith))

-- ---- lines cut again

-- No byte ends a line.
abbrev pub Plain : List ℕ → Type 0
Plain [] = Unit {0}
Plain (b ∷ bs) = (eqb b LF ≡ false) × Plain bs

-- The same as a test, which a word of known bytes passes.
abbrev pub is_plain : List ℕ → Bool
is_plain [] = true
is_plain (b ∷ bs) = not (eqb b LF) && is_plain bs

-- What passes the test has no LF.
pub plain_tested : (bs : List ℕ) → is_plain bs ≡ true → Plain bs
plain_tested [] t = tt
plain_tested (b ∷ bs) t = (not-true (eqb b LF) (and_first (not (eqb b LF)) (is_plain bs) t), plain_tested bs (and_second (not (eqb b LF)) (is_plain bs) t))

-- Two parts without LF have none together.
plain_append : (bs cs : List ℕ) → Plain bs → Plain cs → Plain (bs ++ cs)
plain_append [] cs p q = q
plain_append (b ∷ bs) cs p q = (p.0, plain_append bs cs p.1 q)

-- No digit is LF.
plain_digits : (bs : List ℕ) → Digits bs → Plain bs
plain_digits [] d = tt
plain_digits (b ∷ bs) d = (ne_eqb b LF (λ e. omega (arith, d.0.0)), plain_digits bs d.1)

-- The first LF ends the first line.
cut_first : (bs rest : List ℕ) → Plain bs → cut (bs ++ (LF ∷ rest)) ≡ record { whole = bs ∷ (cut rest).whole; rest = (cut rest).rest }
unfolding cut in_front
cut_first [] rest p = refl
cut_first (b ∷ bs) rest p = rw (p.0, cut_first bs rest p.1)

-- A line without its LF: a word and a number.
abbrev pub saying : List ℕ → ℕ → List ℕ
saying word n = word ++ decimal n

-- A line and what stands behind it, parted at the LF.
regrouped : (word digits rest : List ℕ) → word ++ (digits ++ (LF ∷ [])) ++ rest ≡ word ++ digits ++ (LF ∷ rest)
regrouped word digits rest = simp append_assoc

module _ (word : List ℕ) (plain : Plain word) where
  -- A line printed is cut off as it was.
  pub cut_line : (n : ℕ) (rest : List ℕ) → cut (line word n ++ rest) ≡ record { whole = saying word n ∷ (cut rest).whole; rest = (cut rest).rest }
  unfolding line
  cut_line n rest =
      ap cut (regrouped word (decimal n) rest)
      ∙ cut_first (saying word n) rest (plain_append word (decimal n) plain (plain_digits (decimal n) (digits_decimal n)))

  -- So are lines.
  pub cut_lines : (xs rest : List ℕ) → cut (lines word xs ++ rest) ≡ record { whole = map (saying word) xs ++ (cut rest).whole; rest = (cut rest).rest }
  unfolding lines
  cut_lines [] rest = refl
  cut_lines (x ∷ xs) rest = rw (append_assoc (line word x) (lines word xs) rest, cut_line x (lines word xs ++ rest), cut_lines xs rest)

-- The word of the threshold line has no LF.
plain_threshold : Plain threshold_word
plain_threshold = plain_tested threshold_word refl

-- Nor has the word of a log line.
plain_log : Plain log_word
plain_log = plain_tested log_word refl

-- Nor has the word of a got line.
plain_got : Plain got_word
plain_got = plain_tested got_word refl

-- The lines of an input.
abbrev lines_of : ℕ → List ℕ → List ℕ → List (List ℕ)
lines_of T l g = saying threshold_word T ∷ (map (saying log_word) l ++ map (saying got_word) g)

-- The got lines are cut into themselves, and nothing stands behind them.
cut_gots : (g : List ℕ) → cut (lines got_word g) ≡ record { whole = map (saying got_word) g; rest = [] }
unfolding cut
cut_gots g = ap cut (sym (append-nil (lines got_word g))) ∙ cut_lines got_word plain_got g [] ∙ rw append-nil

-- An input is cut into its lines, and nothing stands behind the last.
cut_input : (T : ℕ) (l g : List ℕ) → cut (input_of T l g) ≡ record { whole = lines_of T l g; rest = [] }
unfolding input_of
cut_input T l g =
    rw (cut_line threshold_word plain_threshold T (lines log_word l ++ lines got_word g), cut_lines log_word plain_log l (lines got_word g), cut_gots g)

-- ---- what each line says

module _ (K : Kind) where
  -- Behind its word a line is its number.
  keyed_word : (key : ℕ → Line) (word bs : List ℕ) → keyed K key word (word ++ bs) ≡ valued key (number K bs)
  unfolding keyed
  keyed_word key [] bs = refl
  keyed_word key (w ∷ word) bs = rw (eq-eqb w w refl) (keyed_word key word bs)

  -- A word and a printed number are the line of that number.
  keyed_number : (key : ℕ → Line) (word : List ℕ) (n : ℕ) → n < 256 ^ K.code_bytes → keyed K key word (saying word n) ≡ key n
  keyed_number key word n h = keyed_word key word (decimal n) ∙ rw (number_decimal K n h)

  -- A log line is no threshold line.
  log_no_threshold : (bs : List ℕ) → keyed K threshold threshold_word (log_word ++ bs) ≡ bad
  unfolding keyed
  log_no_threshold bs = refl

  -- A got line is no threshold line.
  got_no_threshold : (bs : List ℕ) → keyed K threshold threshold_word (got_word ++ bs) ≡ bad
  unfolding keyed
  got_no_threshold bs = refl

  -- A got line is no log line.
  got_no_log : (bs : List ℕ) → keyed K log log_word (got_word ++ bs) ≡ bad
  unfolding keyed
  got_no_log bs = refl

  -- A threshold line printed is read as its threshold.
  parsed_threshold : (n : ℕ) → n < 256 ^ K.code_bytes → parsed K (saying threshold_word n) ≡ threshold n
  unfolding parsed
  parsed_threshold n h = rw (keyed_number threshold threshold_word n h)

  -- A log line printed is read as its code.
  parsed_log : (n : ℕ) → n < 256 ^ K.code_bytes → parsed K (saying log_word n) ≡ log n
  unfolding parsed
  parsed_log n h = rw (log_no_threshold (decimal n), keyed_number log log_word n h)

  -- A got line printed is read as its code.
  parsed_got : (n : ℕ) → n < 256 ^ K.code_bytes → parsed K (saying got_word n) ≡ got n
  unfolding parsed
  parsed_got n h = rw (got_no_threshold (decimal n), got_no_log (decimal n), keyed_number got got_word n h)

  -- ---- what the lines give

  -- One log line more puts its code behind the log.
  next_log : (T : ℕ) (l : List ℕ) (c : ℕ) → length l < most_lines → c < 256 ^ K.code_bytes
      → next K (logs T l) (parsed K (saying log_word c)) ≡ logs T (l ++ (c ∷ []))
  unfolding next
  next_log T l c room h = rw (parsed_log c h, lt-ltb (length l) most_lines room)

  -- One got line more puts its code behind those got.
  next_got : (T : ℕ) (l g : List ℕ) (c : ℕ) → length g < most_lines → c < 256 ^ K.code_bytes
      → next K (gots T l g) (parsed K (saying got_word c)) ≡ gots T l (g ++ (c ∷ []))
  unfolding next
  next_got T l g c room h = rw (parsed_got c h, lt-ltb (length g) most_lines room)

  -- Log lines behind those before.
  log_lines : (T : ℕ) (before l : List ℕ) (ls : List (List ℕ)) → length before + length l ≤ most_lines → AllBelow (256 ^ K.code_bytes) l
      → all_lines K (logs T before) (map (saying log_word) l ++ ls) ≡ all_lines K (logs T (before ++ l)) ls
  log_lines T before [] ls room below = rw append-nil
  log_lines T before (c ∷ l) ls room below =
      let room_after : length (before ++ (c ∷ [])) + length l ≤ most_lines = rw length-append (omega arith) in
      ap (λ (s : Seen). all_lines K s (map (saying log_word) l ++ ls)) (next_log T before c (omega arith) below.0)
      ∙ log_lines T (before ++ (c ∷ [])) l ls room_after below.1 ∙ rw (append_assoc before (c ∷ []) l)

  -- Got lines behind those before.
  got_lines : (T : ℕ) (l before g : List ℕ) → length before + length g ≤ most_lines → AllBelow (256 ^ K.code_bytes) g
      → all_lines K (gots T l before) (map (saying got_word) g) ≡ gots T l (before ++ g)
  got_lines T l before [] room below = rw append-nil
  got_lines T l before (c ∷ g) room below =
      let room_after : length (before ++ (c ∷ [])) + length g ≤ most_lines = rw length-append (omega arith) in
      ap (λ (s : Seen). all_lines K s (map (saying got_word) g)) (next_got T l before c (omega arith) below.0)
      ∙ got_lines T l (before ++ (c ∷ [])) g room_after below.1 ∙ rw (append_assoc before (c ∷ []) g)

  -- What an input's lines give: an input without got lines ends among the log lines.
  abbrev pub seen_of : ℕ → List ℕ → List ℕ → Seen
  seen_of T l [] = logs T l
  seen_of T l (c ∷ g) = gots T l (c ∷ g)

  -- The got lines behind the log lines, if there are any.
  got_part : (T : ℕ) (l g : List ℕ) → length g ≤ most_lines → AllBelow (256 ^ K.code_bytes) g
      → all_lines K (logs T l) (map (saying got_word) g) ≡ seen_of T l g
  unfolding next
  got_part T l [] room below = refl
  got_part T l (c ∷ g) room below =
      ap (λ (line : Line). all_lines K (next K (logs T l) line) (map (saying got_word) g)) (parsed_got c below.0)
      ∙ got_lines T l (c ∷ []) g (omega arith) below.1

  -- The threshold line begins a log, where the threshold is in range.
  next_threshold : (T : ℕ) → 1 ≤ T → T ≤ K.greatest → next K unbegun (parsed K (saying threshold_word T)) ≡ logs T []
  unfolding next
  next_threshold T least most = rw (parsed_threshold T (omega (arith, K.above, K.fits)), le-leb 1 T least, le-leb T K.greatest most)

  -- The end of the input changes nothing, where no byte stands behind the last LF.
  closed_seen : (T : ℕ) (l g : List ℕ) → closed (seen_of T l g) [] ≡ seen_of T l g
  unfolding closed
  closed_seen T l [] = refl
  closed_seen T l (c ∷ g) = refl

  -- The lines of a threshold in range, of log codes and of got codes, no more of either than there may be, are read as these.
  pub read_input : (T : ℕ) (l g : List ℕ) → 1 ≤ T → T ≤ K.greatest → length l ≤ most_lines → length g ≤ most_lines → AllBelow (256 ^ K.code_bytes) l
      → AllBelow (256 ^ K.code_bytes) g → read_lines K (cut (input_of T l g)) ≡ seen_of T l g
  unfolding read_lines
  read_input T l g least most few-logs few_gots log_codes got_codes =
      ap (read_lines K) (cut_input T l g) ∙ ap (λ (s : Seen). closed s []) all_read ∙ closed_seen T l g
    where
      all_read : all_lines K unbegun (lines_of T l g) ≡ seen_of T l g
      all_read =
          ap (λ (s : Seen). all_lines K s (map (saying log_word) l ++ map (saying got_word) g)) (next_threshold T least most)
          ∙ log_lines T [] l (map (saying got_word) g) (omega arith) log_codes ∙ got_part T l g few_gots got_codes

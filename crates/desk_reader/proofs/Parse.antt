-- A line read byte by byte says what the whole line says.
-- Assumes nothing.
use Prim.Native.Nat.{ℕ, ◌+◌, ◌-◌, ◌*◌, ◌≤◌, ◌<◌}
use mathlib.Core.Path.{◌≡◌, refl, sym, ◌∙◌}
use mathlib.Core.Bool.{Bool, true, false, cond, ◌&&◌}
use mathlib.Core.List.{List, [], ◌∷◌, ◌++◌, foldl, foldl-append}
use native.Mathlib.Numerals.{add-one}
use native.Mathlib.Omega.{arith}
use lib.Dec.{eqb, leb, ltb}
use lib.ListN.{length, get_or, drop, drop_of_length-le}
use lib.Seq.{drop-cons}
use borrow.Author.Tests.{ne_eqb, eqb-true, eqb-false, ltb-true, ltb-false, leb-true}
use Rattle.rules.specs.Kind.{kind32}
use Rattle.desk_rules.specs.Lines as rules
use Rattle.desk_rules.specs.Lines.{threshold_word, log_word, greatest_number, is_digit, well_begun, number, threshold, log, got, bad, valued, keyed, or_else, parsed}
use Rattle.desk_rules.proofs.Desk.{further, alone, number_by_digits}
use Rattle.rules.proofs.Each.{and_first}
use Rattle.desk_reader.specs.declared.bytes.Key.{Key}
use Rattle.desk_reader.specs.declared.bytes.Key.TheVariants.{Threshold, Log, Got}
use Rattle.desk_reader.specs.declared.bytes.Line.{Line}
use Rattle.desk_reader.specs.declared.bytes.Line.TheVariants.{Fresh, Word, Value, Bad}
use Rattle.desk_reader.specs.Reader.{word_of, first_byte, word_byte, first_digit, next_digit, line_byte}

-- What a line of this word and a number says.
abbrev pub key_of : Key → (ℕ → rules.Line)
key_of Threshold = threshold
key_of Log = log
key_of Got = got

-- What a whole line says, by where its bytes have led.
abbrev pub said : Line → rules.Line
said Fresh = bad
said (Word k at) = bad
said (Value k v) = key_of k v
said Bad = bad

-- What a line says whose bytes so far have led here, and whose further bytes are bs.
unfoldable meant : Line → List ℕ → rules.Line
meant Fresh bs = parsed kind32 bs
meant (Word k at) bs = keyed kind32 (key_of k) (drop at (word_of k)) bs
meant (Value k v) bs = valued (key_of k) (cond (eqb v 0) (alone bs) (further kind32 v bs))
meant Bad bs = bad

-- ---- one byte more

-- A bad line as the other choice changes nothing.
or_bad : (l : rules.Line) → or_else l bad ≡ l
or_bad (threshold n) = refl
or_bad (log n) = refl
or_bad (got n) = refl
or_bad bad = refl

-- The first byte tells the word.
first_byte_lem : (b : ℕ) (bs : List ℕ) (t l g : Bool) → eqb b 116 ≡ t → eqb b 108 ≡ l → eqb b 103 ≡ g → meant (first_byte b) bs ≡ parsed kind32 (b ∷ bs)
unfolding meant first_byte parsed keyed
first_byte_lem b bs true l g p q r = rw (eqb-true b 116 p) (sym (or_bad (keyed kind32 threshold (drop 1 threshold_word) bs)))
first_byte_lem b bs false true g p q r = rw (eqb-true b 108 q) (sym (or_bad (keyed kind32 log (drop 1 log_word) bs)))
first_byte_lem b bs false false true p q r = rw (eqb-true b 103 r)
first_byte_lem b bs false false false p q r = simp (p, q, r)

-- A byte of the word.
in_word : (k : Key) (at b : ℕ) (bs : List ℕ) (same : Bool) → at < length (word_of k) → eqb b (get_or (word_of k) at 0) ≡ same
    → meant (word_byte k at b) bs ≡ keyed kind32 (key_of k) (drop at (word_of k)) (b ∷ bs)
unfolding meant word_byte keyed
in_word k at b bs true h e = rw (drop-cons (word_of k) at 0 h, e, add-one)
in_word k at b bs false h e = rw (drop-cons (word_of k) at 0 h, e)

-- The first digit behind the word.
first_digit_lem : (k : Key) (b : ℕ) (bs : List ℕ) (nought digit : Bool) → eqb b 48 ≡ nought → is_digit b ≡ digit
    → meant (first_digit k b) bs ≡ valued (key_of k) (number kind32 (b ∷ bs))
unfolding meant first_digit
first_digit_lem k b bs true digit p q = rw (number_by_digits kind32 b bs true digit p q, eqb-true b 48 p)
first_digit_lem k b bs false true p q =
    let low : 48 ≤ b = leb-true 48 b (and_first (leb 48 b) (leb b 57) q) in
    let some_value : eqb (b - 48) 0 ≡ false = ne_eqb (b - 48) 0 (λ e. eqb-false b 48 p (omega arith)) in
    rw (number_by_digits kind32 b bs false true p q, q, some_value)
first_digit_lem k b bs false false p q = rw (number_by_digits kind32 b bs false false p q, q)

-- A byte of the word, or the one behind it.
word : (k : Key) (at b : ℕ) (bs : List ℕ) (within : Bool) → ltb at (length (word_of k)) ≡ within
    → meant (cond within (word_byte k at b) (first_digit k b)) bs ≡ keyed kind32 (key_of k) (drop at (word_of k)) (b ∷ bs)
unfolding keyed
word k at b bs true e = in_word k at b bs (eqb b (get_or (word_of k) at 0)) (ltb-true at (length (word_of k)) e) refl
word k at b bs false e =
    rw (drop_of_length-le (word_of k) (ltb-false at (length (word_of k)) e)) (first_digit_lem k b bs (eqb b 48) (is_digit b) refl refl)

-- A further digit.
value : (k : Key) (v b : ℕ) (bs : List ℕ) (nought digit : Bool) → eqb v 0 ≡ nought → is_digit b && leb (v * 10 + (b - 48)) (greatest_number kind32) ≡ digit
    → meant (next_digit k v b) bs ≡ valued (key_of k) (cond (eqb v 0) (alone (b ∷ bs)) (further kind32 v (b ∷ bs)))
unfolding meant next_digit alone further
value k v b bs true digit p q = rw p
value k v b bs false true p q =
    let some_value : eqb (v * 10 + (b - 48)) 0 ≡ false = ne_eqb (v * 10 + (b - 48)) 0 (λ e. eqb-false v 0 p (omega arith)) in
    rw (p, q, some_value)
value k v b bs false false p q = rw (p, q)

-- Any byte: the rest of the line says what the whole of it says.
byte : (l : Line) (b : ℕ) (bs : List ℕ) → meant (line_byte l b) bs ≡ meant l (b ∷ bs)
unfolding meant line_byte
byte Fresh b bs = first_byte_lem b bs (eqb b 116) (eqb b 108) (eqb b 103) refl refl refl
byte (Word k at) b bs = word k at b bs (ltb at (length (word_of k))) refl
byte (Value k v) b bs = value k v b bs (eqb v 0) (is_digit b && leb (v * 10 + (b - 48)) (greatest_number kind32)) refl refl
byte Bad b bs = refl

-- ---- the end of a line

-- A line that ends without a number is bad.
word_end : (key : ℕ → rules.Line) (ws : List ℕ) → keyed kind32 key ws [] ≡ bad
unfolding keyed number well_begun
word_end key [] = refl
word_end key (w ∷ ws) = refl

-- A line that ends behind a number says it.
value_end : (key : ℕ → rules.Line) (v : ℕ) (nought : Bool) → eqb v 0 ≡ nought → valued key (cond nought (alone []) (further kind32 v [])) ≡ key v
unfolding alone further
value_end key v true e = rw (eqb-true v 0 e)
value_end key v false e = refl

-- Any line that ends.
ends : (l : Line) → said l ≡ meant l []
unfolding meant parsed keyed
ends Fresh = refl
ends (Word k at) = sym (word_end (key_of k) (drop at (word_of k)))
ends (Value k v) = sym (value_end (key_of k) v (eqb v 0) refl)
ends Bad = refl

-- ---- a whole line

-- Where the bytes of a line lead.
abbrev pub led : List ℕ → Line
led = foldl line_byte Fresh

-- The further bytes of a line, wherever those so far have led.
says : (l : Line) (bs : List ℕ) → said (foldl line_byte l bs) ≡ meant l bs
says l [] = ends l
says l (b ∷ bs) = says (line_byte l b) bs ∙ byte l b bs

-- A line read byte by byte says what the whole line says.
pub led_says : (bs : List ℕ) → said (led bs) ≡ parsed kind32 bs
unfolding meant
led_says bs = says Fresh bs

-- One byte more.
pub led_more : (bs : List ℕ) (b : ℕ) → led (bs ++ (b ∷ [])) ≡ line_byte (led bs) b
led_more bs b = foldl-append line_byte Fresh bs (b ∷ [])

-- A sketch in words, as it crosses to C and to Rust: what the words say, and what each exported call answers and leaves, over any kind. Definitions only.
-- The words are the threshold, the count, 1 or 0 for a last code or none, the last code or 0, and the sums. A word has the bits of a code, so a count may take
-- two. A slice has at least as many words; what stands behind them is neither read nor written.
-- Assumes nothing.
use Rattle.std.specs.Prelude.{ℕ, ◌+◌, ◌*◌, ◌/◌, ◌%◌, ◌^◌, Bool, cond, ◌&&◌, List, [], ◌∷◌, ◌++◌, leb, ltb, eqb, length, get_or, take, drop, ℤ, pos}
use Rattle.rules.specs.Kind.{Kind, counts}
use Rattle.rules.specs.Signed.{signed_count}
use Rattle.rules.specs.Sketch.{Sketch, Last, nothing, code, has_code, code_or0, well_formed}
use Rattle.rules.specs.Calls as calls
use Rattle.rules.specs.Calls.{Outcome, refused, given, fitting}

-- ---- a sketch and its words

-- How many words stand before the sums: the threshold, the count, and two for the last code.
abbrev pub head_words : Kind → ℕ
head_words K = 3 + K.count_words

-- Where the word stands that is 1 for a last code and 0 for none.
abbrev pub has_at : Kind → ℕ
has_at K = 1 + K.count_words

-- Where the last code stands.
abbrev pub last_at : Kind → ℕ
last_at K = 2 + K.count_words

-- The words of a count: one, or two, the lower first.
abbrev pub count_parts : Kind → ℕ → List ℕ
count_parts K n = cond (eqb K.count_words 1) (n ∷ []) (n % 256 ^ K.code_bytes ∷ n / 256 ^ K.code_bytes ∷ [])

-- The count that words say.
abbrev pub count_in : Kind → List ℕ → ℕ
count_in K ws = cond (eqb K.count_words 1) (get_or ws 1 0) (get_or ws 1 0 + 256 ^ K.code_bytes * get_or ws 2 0)

-- The last code that two words say: none where the first is 0, otherwise the second.
abbrev pub last_in : ℕ → ℕ → Last
last_in has x = cond (eqb has 0) nothing (code x)

-- The last code that words say.
abbrev pub last_said : Kind → List ℕ → Last
last_said K ws = last_in (get_or ws (has_at K) 0) (get_or ws (last_at K) 0)

-- Two words say a last code in one way: none by 0 and 0, a code by 1 and the code.
abbrev pub last_shaped : ℕ → ℕ → Bool
last_shaped has x = cond (eqb has 0) (eqb x 0) (eqb has 1)

-- The sketch that words say.
unfoldable pub said_by : Kind → List ℕ → Sketch
said_by K ws = record {
  threshold = get_or ws 0 0;
  sums = take (get_or ws 0 0) (drop (head_words K) ws);
  count = count_in K ws;
  last = last_said K ws;
}

-- Whether words begin with those of a well-formed sketch: there are as many as the threshold says, the count is one, the last code is said in the one way,
-- and what they say is well formed.
unfoldable pub words_fit : Kind → List ℕ → Bool
words_fit K ws =
    leb (head_words K + get_or ws 0 0) (length ws) && ltb (count_in K ws) counts && last_shaped (get_or ws (has_at K) 0) (get_or ws (last_at K) 0)
    && well_formed K (get_or ws 0 0) (take (get_or ws 0 0) (drop (head_words K) ws)) (last_said K ws)

-- The words before the sums.
abbrev pub head : Kind → ℕ → ℕ → ℕ → ℕ → List ℕ
head K threshold count has last = threshold ∷ count_parts K count ++ has ∷ last ∷ []

-- The words of a sketch.
unfoldable pub words_of : Kind → Sketch → List ℕ
words_of K s = head K s.threshold s.count (has_code s.last) (code_or0 s.last) ++ s.sums

-- The words of a sketch that a call gives, over those that it was given.
abbrev pub in_words : Kind → Outcome Sketch → Outcome (List ℕ)
in_words K (refused n) = refused n
in_words K (given s) = given (words_of K s)

-- The words of a sketch that a call gives, for a lent slice of so many words: 5, after every other refusal, where the slice has fewer.
abbrev pub into_words : Kind → ℕ → Outcome Sketch → Outcome (List ℕ)
into_words K places (refused n) = refused n
into_words K places (given s) = fitting (words_of K s) places

-- ---- the calls

module _ (K : Kind) where
  -- Make, for a lent slice of so many words: 1, then 5.
  unfoldable pub new_in : ℕ → ℕ → Outcome (List ℕ)
  new_in threshold places = into_words K places (calls.make K threshold)

  -- The test of words: 1 for yes, 0 for no.
  abbrev pub well_formed_in : List ℕ → ℕ
  well_formed_in ws = cond (words_fit K ws) 1 0

  -- Insert: 12.
  unfoldable pub insert_in : List ℕ → ℕ → Outcome (List ℕ)
  insert_in ws c = in_words K (calls.insert K (words_fit K ws) (said_by K ws) c)

  -- Remove: 12.
  unfoldable pub remove_in : List ℕ → ℕ → Outcome (List ℕ)
  remove_in ws c = in_words K (calls.remove K (words_fit K ws) (said_by K ws) c)

  -- Subtract in place, over the first: 12 for either, then 2.
  unfoldable pub sub_assign_in : List ℕ → List ℕ → Outcome (List ℕ)
  sub_assign_in ws vs = in_words K (calls.sub_assign K (words_fit K ws && words_fit K vs) (said_by K ws) (said_by K vs))

  -- Subtract, for a lent slice of so many words: 12 for either, then 5.
  unfoldable pub sub_in : List ℕ → List ℕ → ℕ → Outcome (List ℕ)
  sub_in ws vs places = into_words K places (calls.sub K (words_fit K ws && words_fit K vs) (said_by K ws) (said_by K vs))

  -- The signed count that words say; 0 where they are fewer than stand before the sums.
  abbrev pub signed_count_in : List ℕ → ℤ
  signed_count_in ws = cond (leb (head_words K) (length ws)) (signed_count (count_in K ws)) (pos 0)

  -- Negate, for a lent slice of so many words: 12, then 5.
  unfoldable pub negate_in : List ℕ → ℕ → Outcome (List ℕ)
  negate_in ws places = into_words K places (calls.negate K (words_fit K ws) (said_by K ws))

  -- Coefficients, for a lent buffer of so many places: 12, then 4, then 5.
  unfoldable pub coefficients_in : List ℕ → ℕ → Outcome (List ℕ)
  coefficients_in ws places = calls.coefficients K (words_fit K ws) (said_by K ws) places

  -- Decode a log, for a lent buffer of so many places: 12, then 4, then 5.
  unfoldable pub decode_in : List ℕ → List ℕ → ℕ → Outcome (List ℕ)
  decode_in ws log places = calls.decode K (words_fit K ws) (said_by K ws) log places

  -- Decode the surplus among got codes, for a lent buffer of so many places: 12, then 4, then 5.
  unfoldable pub decode_surplus_in : List ℕ → List ℕ → ℕ → Outcome (List ℕ)
  decode_surplus_in ws got places = calls.decode_surplus K (words_fit K ws) (said_by K ws) got places

  -- Write, for a lent buffer of so many bytes: 12, then 3, then 5.
  unfoldable pub write_in : List ℕ → ℕ → Outcome (List ℕ)
  write_in ws room = calls.write K (words_fit K ws) (said_by K ws) room

  -- Write with a hint: the same.
  unfoldable pub write_with_hint_in : List ℕ → ℕ → ℕ → Outcome (List ℕ)
  write_with_hint_in ws hint room = calls.write_with_hint K (words_fit K ws) (said_by K ws) hint room

  -- Read, for a lent slice of so many words: 6, then 7, then 8, then 5.
  unfoldable pub read_in : List ℕ → ℕ → Outcome (List ℕ)
  read_in bs places = into_words K places (calls.read K bs)

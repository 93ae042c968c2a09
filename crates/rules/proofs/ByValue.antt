-- The exported calls beside the calls by value: on the words of a sketch they come to the same.
-- Assumes nothing.
use Prim.Native.Nat.{ℕ}
use mathlib.Core.Path.{◌≡◌}
use mathlib.Core.Bool.{true}
use mathlib.Core.List.{List, ◌++◌}
use Rattle.rules.specs.Kind.{Kind}
use Rattle.rules.specs.Sketch.{Sketch, WellFormed}
use Rattle.rules.specs.Calls as calls
use Rattle.rules.specs.Words.{words_of, insert_in, remove_in, sub_assign_in, sub_in, coefficients_in, decode_in, write_in}
use Rattle.rules.specs.Words.{write_with_hint_in, negate_in, decode_surplus_in}
use Rattle.rules.specs.Words.{in_words, into_words}
use Rattle.rules.proofs.Words.{words_fit_lem, sketch_back}

-- On the words of a well-formed sketch, whatever stands behind them, each exported call comes to what the call by value comes to, in words.
module _ (K : Kind) (s : Sketch) (w : WellFormed K s) (rest : List ℕ) where
  -- Insertion.
  pub insert_by_value : (c : ℕ) → insert_in K (words_of K s ++ rest) c ≡ in_words K (calls.insert K true s c)
  unfolding insert_in
  insert_by_value c = rw (words_fit_lem K s w rest, sketch_back K s w rest)

  -- Removal.
  pub remove_by_value : (c : ℕ) → remove_in K (words_of K s ++ rest) c ≡ in_words K (calls.remove K true s c)
  unfolding remove_in
  remove_by_value c = rw (words_fit_lem K s w rest, sketch_back K s w rest)

  -- Coefficients.
  pub coefficients_by_value : (places : ℕ) → coefficients_in K (words_of K s ++ rest) places ≡ calls.coefficients K true s places
  unfolding coefficients_in
  coefficients_by_value places = rw (words_fit_lem K s w rest, sketch_back K s w rest)

  -- Decoding.
  pub decode_by_value : (log : List ℕ) (places : ℕ) → decode_in K (words_of K s ++ rest) log places ≡ calls.decode K true s log places
  unfolding decode_in
  decode_by_value log places = rw (words_fit_lem K s w rest, sketch_back K s w rest)

  -- Negation.
  pub negate_by_value : (places : ℕ) → negate_in K (words_of K s ++ rest) places ≡ into_words K places (calls.negate K true s)
  unfolding negate_in
  negate_by_value places = rw (words_fit_lem K s w rest, sketch_back K s w rest)

  -- Decoding the surplus.
  pub surplus_by_value : (got : List ℕ) (places : ℕ) → decode_surplus_in K (words_of K s ++ rest) got places ≡ calls.decode_surplus K true s got places
  unfolding decode_surplus_in
  surplus_by_value got places = rw (words_fit_lem K s w rest, sketch_back K s w rest)

  -- Writing.
  pub write_by_value : (room : ℕ) → write_in K (words_of K s ++ rest) room ≡ calls.write K true s room
  unfolding write_in
  write_by_value room = rw (words_fit_lem K s w rest, sketch_back K s w rest)

  -- Writing with a hint.
  pub hint_by_value : (h room : ℕ) → write_with_hint_in K (words_of K s ++ rest) h room ≡ calls.write_with_hint K true s h room
  unfolding write_with_hint_in
  hint_by_value h room = rw (words_fit_lem K s w rest, sketch_back K s w rest)

  module _ (o : Sketch) (v : WellFormed K o) (more : List ℕ) where
    -- Subtraction in place.
    pub sub_assign_by_value : sub_assign_in K (words_of K s ++ rest) (words_of K o ++ more) ≡ in_words K (calls.sub_assign K true s o)
    unfolding sub_assign_in
    sub_assign_by_value = rw (words_fit_lem K s w rest, sketch_back K s w rest, words_fit_lem K o v more, sketch_back K o v more)

    -- Subtraction.
    pub sub_by_value : (places : ℕ) → sub_in K (words_of K s ++ rest) (words_of K o ++ more) places ≡ into_words K places (calls.sub K true s o)
    unfolding sub_in
    sub_by_value places = rw (words_fit_lem K s w rest, sketch_back K s w rest, words_fit_lem K o v more, sketch_back K o v more)

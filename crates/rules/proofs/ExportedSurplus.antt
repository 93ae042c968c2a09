-- The exported negation is a subtraction from the words of a fresh sketch, and the exported decoding of the surplus decodes the negated words.
-- Assumes nothing.
use Prim.Native.Nat.{ℕ, ◌+◌, ◌≤◌}
use mathlib.Core.Path.{◌≡◌, refl, sym}
use mathlib.Core.Bool.{true, false}
use mathlib.Core.List.{List}
use native.Mathlib.Omega.{arith}
use lib.ListN.{length, drop}
use borrow.Author.Tests.{le-leb}
use Rattle.rules.specs.Kind.{Kind}
use Rattle.rules.specs.Sketch.{Sketch, WellFormed, fresh, negate, surplus_in}
use Rattle.rules.specs.Calls as calls
use Rattle.rules.specs.Calls.{refused, given, written}
use Rattle.rules.specs.Words.{head_words, words_fit, said_by, words_of, into_words, new_in, sub_in, negate_in, decode_in, decode_surplus_in}
use Rattle.rules.proofs.Bytes.{fitting_given}
use Rattle.rules.proofs.WellFormed.{fresh_well_formed}
use Rattle.rules.proofs.Negation.{negate_well_formed, nothing_less}
use Rattle.rules.proofs.Outcomes.{surplus_negated}
use Rattle.rules.proofs.Words.{fit_parts, words_length, words_fit_lem, sketch_back}

-- Negation of words that do not fit is refused by 12.
pub negate_misfit : (K : Kind) (ws : List ℕ) → words_fit K ws ≡ false → (places : ℕ) → negate_in K ws places ≡ refused 12
unfolding negate_in calls.negate
negate_misfit K ws e places = rw e

module _ (K : Kind) (ws : List ℕ) (ok : words_fit K ws ≡ true) where
  -- They say a well-formed sketch.
  well : WellFormed K (said_by K ws)
  well = (fit_parts K ws ok).well

  -- A sketch of at most the greatest threshold goes to so many words.
  into_words_lem : (s : Sketch) → WellFormed K s → (places : ℕ) → head_words K + K.greatest ≤ places → into_words K places (given s) ≡ given (words_of K s)
  into_words_lem s w places room = fitting_given (words_of K s) (words_length K s) (omega (arith, w.as_many, w.at_most, room))

  -- Negation to as many words is not refused.
  pub negate_given : (places : ℕ) → head_words K + K.greatest ≤ places → negate_in K ws places ≡ given (words_of K (negate K (said_by K ws)))
  unfolding negate_in calls.negate
  negate_given places room = rw ok (into_words_lem (negate K (said_by K ws)) (negate_well_formed K (said_by K ws) well) places room)

  module _ (lent : List ℕ) (room : head_words K + K.greatest ≤ length lent) where
    -- The words of a fresh sketch of the same threshold, less these, are the negated ones.
    pub negate_subtracts : (places : ℕ) → sub_in K (written (new_in K (said_by K ws).threshold (length lent)) lent) ws places ≡ negate_in K ws places
    unfolding sub_in new_in negate_in calls.make calls.sub calls.negate
    negate_subtracts places =
        rw (
          le-leb 1 (said_by K ws).threshold well.at_least,
          le-leb (said_by K ws).threshold K.greatest well.at_most,
          into_words_lem (fresh (said_by K ws).threshold) zeros (length lent) room,
          words_fit_lem K (fresh (said_by K ws).threshold) zeros (drop (length (words_of K (fresh (said_by K ws).threshold))) lent),
          sketch_back K (fresh (said_by K ws).threshold) zeros (drop (length (words_of K (fresh (said_by K ws).threshold))) lent),
          ok,
          nothing_less K (said_by K ws) well,
        )
      where
        zeros : WellFormed K (fresh (said_by K ws).threshold)
        zeros = fresh_well_formed K (said_by K ws).threshold well.at_least well.at_most

    -- Where there is a surplus, no more than the threshold, and room for the got codes, decoding the negated words comes to what decoding the surplus does.
    pub surplus_decodes : (got : List ℕ) (places : ℕ) → (surplus_in (said_by K ws) ≡ 0 → ⊥) → surplus_in (said_by K ws) ≤ (said_by K ws).threshold
        → length got ≤ places
        → decode_in K (written (negate_in K ws (length lent)) lent) got places ≡ decode_surplus_in K ws got places
    unfolding decode_in negate_in decode_surplus_in calls.negate
    surplus_decodes got places some within enough =
        rw (
          ok,
          into_words_lem (negate K (said_by K ws)) negated (length lent) room,
          words_fit_lem K (negate K (said_by K ws)) negated (drop (length (words_of K (negate K (said_by K ws)))) lent),
          sketch_back K (negate K (said_by K ws)) negated (drop (length (words_of K (negate K (said_by K ws)))) lent),
        )
        (sym (surplus_negated K (said_by K ws) got places refl within enough some well.count_below))
      where
        negated : WellFormed K (negate K (said_by K ws))
        negated = negate_well_formed K (said_by K ws) well

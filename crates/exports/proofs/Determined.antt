-- Every public call determines its answer and what it leaves in whatever it was lent: any two outcomes that its contract allows for one input are equal.
-- Over any width; a count's own words at both. The call of codes of 16 bits alone stands in OneReductionGuards.
-- Assumes nothing.
use Rattle.std.proofs.Common.{◌≡◌, ℕ, List, Bor, MutBor, sym, ◌∙◌}
use denote.RattleType.{RattleType}
use contract.Lifetimes.{Lfts}
use Rattle.rules.specs.Determines.{Holds, Determines, DeterminesBoth}
use Rattle.rules.proofs.Determined.{by_equation, by_equations}
use Rattle.modint.proofs.ByNumbers.{DeterminesWords, by_number, by_numbers}
use Rattle.modint.proofs.Blocks as field
use Rattle.modint.proofs.Blocks.{Word, AtBoth}
use Rattle.exports.proofs.Blocks.{Layout, Passed, passing}
use Rattle.exports.proofs.layout.U16Layout.count_in.Reads as count_in16
use Rattle.exports.proofs.layout.U32Layout.count_in.Reads as count_in32
use Rattle.exports.proofs.layout.U16Layout.put_count.Reads as put_count16
use Rattle.exports.proofs.layout.U32Layout.put_count.Reads as put_count32
use Rattle.exports.proofs.power_sum.new.Reads as new
use Rattle.exports.proofs.power_sum.well_formed.Reads as well_formed_call
use Rattle.exports.proofs.power_sum.insert.Reads as insert
use Rattle.exports.proofs.power_sum.remove.Reads as remove
use Rattle.exports.proofs.power_sum.sub_assign.Reads as sub_assign
use Rattle.exports.proofs.power_sum.sub.Reads as sub
use Rattle.exports.proofs.evaluator.eval.Reads as eval
use Rattle.exports.proofs.decoder.to_coeffs.Reads as to_coeffs
use Rattle.exports.proofs.decoder.decode_with_log.Reads as decode_with_log
use Rattle.exports.proofs.surplus.signed_count.Reads as signed_count
use Rattle.exports.proofs.surplus.negate.Reads as negate
use Rattle.exports.proofs.surplus.decode_surplus_with_log.Reads as decode_surplus_with_log
use Rattle.exports.proofs.packet.serialize.Reads as serialize
use Rattle.exports.proofs.packet.serialize_with_hint.Reads as serialize_with_hint
use Rattle.exports.proofs.packet.deserialize.Reads as deserialize
use Rattle.exports.proofs.field.reduce.Reads as reduce
use Rattle.exports.proofs.field.add.Reads as add
use Rattle.exports.proofs.field.sub.Reads as minus
use Rattle.exports.proofs.field.neg.Reads as neg
use Rattle.exports.proofs.field.mul.Reads as mul
use Rattle.exports.proofs.field.inv.Reads as inv
use Rattle.exports.proofs.field.pow.Reads as pow
use Rattle.exports.proofs.field.pow_multiplications.Reads as pow_multiplications

-- ---- a count

-- The count that words say has one answer.
pub count_in_determined : (κs : Lfts 1) (s s' : Bor (List ℕ)) → AtBoth count_in16.Post count_in32.Post (λ post _. Determines (λ r. post κs (s, tt) r (s', tt)))
count_in_determined κs s s' = (by_equation _, by_equation _)

-- Storing a count leaves one list of words.
pub put_count_determined : (κs : Lfts 1) (s : MutBor (List ℕ)) (n : ℕ)
    → AtBoth put_count16.Post put_count32.Post
    (λ post _. (s₁ s₂ : MutBor (List ℕ)) → post κs (s, (n, tt)) tt (s₁, (n, tt)) → post κs (s, (n, tt)) tt (s₂, (n, tt)) → s₁.now ≡ s₂.now)
put_count_determined κs s n = (λ s₁ s₂ p q. p ∙ sym q, λ s₁ s₂ p q. p ∙ sym q)

-- ---- the field

module _ {T : RattleType} (w : Word T) (p : field.Passed T) where
  module _ (κs : Lfts 1) (a b : T.Denot) where
    -- Reducing a code has one answer.
    pub reduce_determined : Determines (Holds (field.passing w p reduce.Post κs) (a, tt))
    reduce_determined = by_number w.width _

    -- Adding two codes has one answer.
    pub add_determined : Determines (Holds (field.passing w p add.Post κs) (a, (b, tt)))
    add_determined = by_number w.width _

    -- Subtracting one code from another has one answer.
    pub minus_determined : Determines (Holds (field.passing w p minus.Post κs) (a, (b, tt)))
    minus_determined = by_number w.width _

    -- The negative of a code has one answer.
    pub neg_determined : Determines (Holds (field.passing w p neg.Post κs) (a, tt))
    neg_determined = by_number w.width _

    -- Multiplying two codes has one answer.
    pub mul_determined : Determines (Holds (field.passing w p mul.Post κs) (a, (b, tt)))
    mul_determined = by_number w.width _

    -- The inverse of a code has one answer.
    pub inv_determined : Determines (Holds (field.passing w p inv.Post κs) (a, tt))
    inv_determined = by_number w.width _

    -- The power of a code, with its number of multiplications, has one answer.
    pub pow_determined : Determines (Holds (field.passing w p pow.Post κs) (a, (b, tt)))
    pow_determined = by_equation _

    -- The number of multiplications for an exponent has one answer.
    pub pow_multiplications_determined : Determines (Holds (field.passing w p pow_multiplications.Post κs) (b, tt))
    pow_multiplications_determined = by_equation _

  -- The value of coefficients at a code has one answer.
  pub eval_determined : (κs : Lfts 2) (s s' : Bor (List T.Denot)) (x : T.Denot)
      → Determines (λ r. field.passing w p eval.Post κs (s, (x, tt)) r (s', (x, tt)))
  eval_determined κs s s' x = by_equation _

module _ {T : RattleType} (y : Layout T) (w : Word T) (p : Passed T) where
  -- ---- calls that are lent words to read

  module _ (κs : Lfts 2) (s s' : Bor (List T.Denot)) where
    -- The test of words has one answer.
    pub well_formed_determined : Determines (λ r. passing y w p well_formed_call.Post κs (s, tt) r (s', tt))
    well_formed_determined = by_equation _

    -- The signed count of words has one answer.
    pub signed_count_determined : Determines (λ r. passing y w p signed_count.Post κs (s, tt) r (s', tt))
    signed_count_determined = by_equation _

  -- ---- calls that are lent words or a buffer to write

  module _ (κs : Lfts 2) (s : MutBor (List T.Denot)) where
    -- Making a sketch has one answer, and leaves one list of words.
    pub new_determined : (n : ℕ) → DeterminesWords (λ r s₁. passing y w p new.Post κs (n, (s, tt)) r (n, (s₁, tt)))
    new_determined n = by_numbers w.width _ _

    -- Insertion has one answer, and leaves one list of words.
    pub insert_determined : (c : T.Denot) → DeterminesWords (λ r s₁. passing y w p insert.Post κs (s, (c, tt)) r (s₁, (c, tt)))
    insert_determined c = by_numbers w.width _ _

    -- Removal has one answer, and leaves one list of words.
    pub remove_determined : (c : T.Denot) → DeterminesWords (λ r s₁. passing y w p remove.Post κs (s, (c, tt)) r (s₁, (c, tt)))
    remove_determined c = by_numbers w.width _ _

  -- s is read, and out is written.
  module _ (κs : Lfts 3) (s s' : Bor (List T.Denot)) where
    module _ (out : MutBor (List T.Denot)) where
      -- Subtraction in place has one answer, and leaves one list of words.
      pub sub_assign_determined : DeterminesWords (λ r out₁. passing y w p sub_assign.Post κs (out, (s, tt)) r (out₁, (s', tt)))
      sub_assign_determined = by_numbers w.width _ _

      -- Negation has one answer, and leaves one list of words.
      pub negate_determined : DeterminesWords (λ r out₁. passing y w p negate.Post κs (s, (out, tt)) r (s', (out₁, tt)))
      negate_determined = by_numbers w.width _ _

      -- The coefficients of a sketch have one answer, and leave one list of numbers in the buffer.
      pub to_coeffs_determined : DeterminesWords (λ r out₁. passing y w p to_coeffs.Post κs (s, (out, tt)) r (s', (out₁, tt)))
      to_coeffs_determined = by_numbers w.width _ _

    module _ (buf : MutBor (List ℕ)) where
      -- Writing a packet has one answer, and leaves one list of bytes.
      pub serialize_determined : DeterminesBoth (λ r buf₁. passing y w p serialize.Post κs (s, (buf, tt)) r (s', (buf₁, tt)))
      serialize_determined = by_equations _ _

      -- Writing a packet with a hint has one answer, and leaves one list of bytes.
      pub serialize_with_hint_determined : (h : ℕ)
          → DeterminesBoth (λ r buf₁. passing y w p serialize_with_hint.Post κs (s, (buf, (h, tt))) r (s', (buf₁, (h, tt))))
      serialize_with_hint_determined h = by_equations _ _

  -- Reading a packet has one answer, and leaves one list of words.
  pub deserialize_determined : (κs : Lfts 3) (buf buf' : Bor (List ℕ)) (out : MutBor (List T.Denot))
      → DeterminesWords (λ r out₁. passing y w p deserialize.Post κs (buf, (out, tt)) r (buf', (out₁, tt)))
  deserialize_determined κs buf buf' out = by_numbers w.width _ _

  module _ (κs : Lfts 4) (s s' o o' : Bor (List T.Denot)) (out : MutBor (List T.Denot)) where
    -- Subtraction of two sketches has one answer, and leaves one list of words.
    pub sub_determined : DeterminesWords (λ r out₁. passing y w p sub.Post κs (s, (o, (out, tt))) r (s', (o', (out₁, tt))))
    sub_determined = by_numbers w.width _ _

    -- Decoding a log has one answer, and leaves one list of entries in the buffer.
    pub decode_with_log_determined : DeterminesWords (λ r out₁. passing y w p decode_with_log.Post κs (s, (o, (out, tt))) r (s', (o', (out₁, tt))))
    decode_with_log_determined = by_numbers w.width _ _

    -- Decoding the surplus has one answer, and leaves one list of codes in the buffer.
    pub decode_surplus_with_log_determined
        : DeterminesWords (λ r out₁. passing y w p decode_surplus_with_log.Post κs (s, (o, (out, tt))) r (s', (o', (out₁, tt))))
    decode_surplus_with_log_determined = by_numbers w.width _ _

-- Every call of the sketch determines its answer, its refusal, and what it leaves in a buffer that it was lent: any two outcomes that its contract allows
-- for one input are equal. Over any width. The calls in place stand in InPlace.
-- Assumes nothing.
use Rattle.std.proofs.Common.{ℕ, List, Bor, MutBor}
use denote.RattleType.{RattleType}
use contract.Lifetimes.{Lfts}
use Rattle.modint.specs.declared.Code.{Code}
use Rattle.modint.proofs.ByNumbers.{DeterminesWords, by_numbers}
use Rattle.modint.proofs.Blocks.{Word, Passed, passing}
use Rattle.rules.specs.Determines.{Holds, Determines, DeterminesBoth}
use Rattle.rules.proofs.Determined.{by_equation, by_equations}
use Rattle.power_sum.specs.declared.power_sum.PowerSumQuack.{PowerSumQuack}
use Rattle.power_sum.proofs.power_sum.PowerSumQuack.new.Reads as new
use Rattle.power_sum.proofs.power_sum.PowerSumQuack.blank.Reads as blank
use Rattle.power_sum.proofs.power_sum.PowerSumQuack.threshold.Reads as threshold
use Rattle.power_sum.proofs.power_sum.PowerSumQuack.count.Reads as count
use Rattle.power_sum.proofs.power_sum.PowerSumQuack.last_value.Reads as last_value
use Rattle.power_sum.proofs.power_sum.PowerSumQuack.well_formed.Reads as well_formed_call
use Rattle.power_sum.proofs.power_sum.PowerSumQuack.insert.Reads as insert
use Rattle.power_sum.proofs.power_sum.PowerSumQuack.remove.Reads as remove
use Rattle.power_sum.proofs.power_sum.PowerSumQuack.sub_assign.Reads as sub_assign
use Rattle.power_sum.proofs.power_sum.PowerSumQuack.sub.Reads as sub
use Rattle.power_sum.proofs.power_sum.PowerSumQuack.signed_count.Reads as signed_count
use Rattle.power_sum.proofs.power_sum.PowerSumQuack.negate.Reads as negate
use Rattle.power_sum.proofs.power_sum.PowerSumQuack.to_coeffs.Reads as to_coeffs
use Rattle.power_sum.proofs.power_sum.PowerSumQuack.decode_with_log.Reads as decode_with_log
use Rattle.power_sum.proofs.power_sum.PowerSumQuack.decode_surplus_with_log.Reads as decode_surplus_with_log
use Rattle.power_sum.proofs.power_sum.PowerSumQuack.serialize.Reads as serialize
use Rattle.power_sum.proofs.power_sum.PowerSumQuack.serialize_with_hint.Reads as serialize_with_hint
use Rattle.power_sum.proofs.power_sum.PowerSumQuack.deserialize.Reads as deserialize

module _ {T : RattleType} (w : Word T) (p : Passed T) where
  -- Making a sketch has one answer.
  pub new_determined : (κs : Lfts 1) (threshold : ℕ) → Determines (Holds (passing w p new.Post κs) (threshold, tt))
  new_determined κs threshold = by_equation _

  -- The struct of no sketch is one.
  pub blank_determined : (κs : Lfts 1) → Determines (Holds (passing w p blank.Post κs) tt)
  blank_determined κs = by_equation _

  -- Reading a packet has one answer.
  pub deserialize_determined : (κs : Lfts 2) (buf buf₁ : Bor (List ℕ)) → Determines (λ r. passing w p deserialize.Post κs (buf, tt) r (buf₁, tt))
  deserialize_determined κs buf buf₁ = by_equation _

  module _ (s : PowerSumQuack T.Denot) where
    module _ (κs : Lfts 1) where
      -- The threshold of a sketch has one answer.
      pub threshold_determined : Determines (Holds (passing w p threshold.Post κs) (s, tt))
      threshold_determined = by_equation _

      -- The count of a sketch has one answer.
      pub count_determined : Determines (Holds (passing w p count.Post κs) (s, tt))
      count_determined = by_equation _

      -- The last code of a sketch has one answer.
      pub last_value_determined : Determines (Holds (passing w p last_value.Post κs) (s, tt))
      last_value_determined = by_equation _

      -- The test of a sketch has one answer.
      pub well_formed_determined : Determines (Holds (passing w p well_formed_call.Post κs) (s, tt))
      well_formed_determined = by_equation _

      -- Insertion has one answer.
      pub insert_determined : (c : Code T.Denot) → Determines (Holds (passing w p insert.Post κs) (s, (c, tt)))
      insert_determined c = by_equation _

      -- Removal has one answer.
      pub remove_determined : (c : Code T.Denot) → Determines (Holds (passing w p remove.Post κs) (s, (c, tt)))
      remove_determined c = by_equation _

      -- Subtraction in place has one answer.
      pub sub_assign_determined : (o : PowerSumQuack T.Denot) → Determines (Holds (passing w p sub_assign.Post κs) (s, (o, tt)))
      sub_assign_determined o = by_equation _

      -- Subtraction of two sketches has one answer.
      pub sub_determined : (o : PowerSumQuack T.Denot) → Determines (Holds (passing w p sub.Post κs) (s, (o, tt)))
      sub_determined o = by_equation _

      -- The signed count of a sketch has one answer.
      pub signed_count_determined : Determines (Holds (passing w p signed_count.Post κs) (s, tt))
      signed_count_determined = by_equation _

      -- Negation has one answer.
      pub negate_determined : Determines (Holds (passing w p negate.Post κs) (s, tt))
      negate_determined = by_equation _

    -- The coefficients of a sketch have one answer, and leave one list of words in the buffer.
    pub to_coeffs_determined : (κs : Lfts 2) (buf : MutBor (List T.Denot))
        → DeterminesWords (λ r buf₁. passing w p to_coeffs.Post κs (s, (buf, tt)) r (s, (buf₁, tt)))
    to_coeffs_determined κs buf = by_numbers w.width _ _

    -- Decoding a log has one answer, and leaves one list of entries in the buffer.
    pub decode_with_log_determined : (κs : Lfts 3) (log log₁ : Bor (List T.Denot)) (out : MutBor (List T.Denot))
        → DeterminesWords (λ r out₁. passing w p decode_with_log.Post κs (s, (log, (out, tt))) r (s, (log₁, (out₁, tt))))
    decode_with_log_determined κs log log₁ out = by_numbers w.width _ _

    -- Decoding the surplus has one answer, and leaves one list of codes in the buffer.
    pub decode_surplus_with_log_determined : (κs : Lfts 3) (got got₁ : Bor (List T.Denot)) (out : MutBor (List T.Denot))
        → DeterminesWords (λ r out₁. passing w p decode_surplus_with_log.Post κs (s, (got, (out, tt))) r (s, (got₁, (out₁, tt))))
    decode_surplus_with_log_determined κs got got₁ out = by_numbers w.width _ _

    -- Writing a packet has one answer, and leaves one list of bytes.
    pub serialize_determined : (κs : Lfts 2) (buf : MutBor (List ℕ)) → DeterminesBoth (λ r buf₁. passing w p serialize.Post κs (s, (buf, tt)) r (s, (buf₁, tt)))
    serialize_determined κs buf = by_equations _ _

    -- Writing a packet with a hint has one answer, and leaves one list of bytes.
    pub serialize_with_hint_determined : (κs : Lfts 2) (buf : MutBor (List ℕ)) (h : ℕ)
        → DeterminesBoth (λ r buf₁. passing w p serialize_with_hint.Post κs (s, (buf, (h, tt))) r (s, (buf₁, (h, tt))))
    serialize_with_hint_determined κs buf h = by_equations _ _

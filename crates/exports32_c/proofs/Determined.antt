-- Every exported call determines its answer and what it leaves in whatever it was lent: any two outcomes that its contract allows for one input are equal.
-- Assumes nothing.
use Rattle.std.proofs.Common.{ℕ, List, Bor, MutBor}
use contract.Lifetimes.{Lfts}
use Rattle.rules.specs.Determines.{Holds, Determines, DeterminesBoth}
use Rattle.rules.proofs.Determined.{by_equation, by_equations}
use Rattle.exports32_c.proofs.power_sum.eddy32_new.Reads as new
use Rattle.exports32_c.proofs.power_sum.eddy32_well_formed.Reads as well_formed_call
use Rattle.exports32_c.proofs.power_sum.eddy32_insert.Reads as insert
use Rattle.exports32_c.proofs.power_sum.eddy32_remove.Reads as remove
use Rattle.exports32_c.proofs.power_sum.eddy32_sub_assign.Reads as sub_assign
use Rattle.exports32_c.proofs.power_sum.eddy32_sub.Reads as sub
use Rattle.exports32_c.proofs.evaluator.eddy32_eval.Reads as eval
use Rattle.exports32_c.proofs.decoder.eddy32_to_coeffs.Reads as to_coeffs
use Rattle.exports32_c.proofs.decoder.eddy32_decode_with_log.Reads as decode_with_log
use Rattle.exports32_c.proofs.surplus.eddy32_signed_count.Reads as signed_count
use Rattle.exports32_c.proofs.surplus.eddy32_negate.Reads as negate
use Rattle.exports32_c.proofs.surplus.eddy32_decode_surplus_with_log.Reads as decode_surplus_with_log
use Rattle.exports32_c.proofs.packet.eddy32_serialize.Reads as serialize
use Rattle.exports32_c.proofs.packet.eddy32_serialize_with_hint.Reads as serialize_with_hint
use Rattle.exports32_c.proofs.packet.eddy32_deserialize.Reads as deserialize
use Rattle.exports32_c.proofs.field.eddy32_field_reduce.Reads as reduce
use Rattle.exports32_c.proofs.field.eddy32_field_add.Reads as add
use Rattle.exports32_c.proofs.field.eddy32_field_sub.Reads as minus
use Rattle.exports32_c.proofs.field.eddy32_field_neg.Reads as neg
use Rattle.exports32_c.proofs.field.eddy32_field_mul.Reads as mul
use Rattle.exports32_c.proofs.field.eddy32_field_inv.Reads as inv
use Rattle.exports32_c.proofs.field.eddy32_field_pow.Reads as pow
use Rattle.exports32_c.proofs.field.eddy32_field_pow_multiplications.Reads as pow_multiplications

-- ---- the field

module _ (a b : ℕ) where
  -- Reducing a code has one answer.
  pub reduce_determined : Determines (Holds (reduce.Post tt) (a, tt))
  reduce_determined = by_equation _

  -- Adding two codes has one answer.
  pub add_determined : Determines (Holds (add.Post tt) (a, (b, tt)))
  add_determined = by_equation _

  -- Subtracting one code from another has one answer.
  pub minus_determined : Determines (Holds (minus.Post tt) (a, (b, tt)))
  minus_determined = by_equation _

  -- The negative of a code has one answer.
  pub neg_determined : Determines (Holds (neg.Post tt) (a, tt))
  neg_determined = by_equation _

  -- Multiplying two codes has one answer.
  pub mul_determined : Determines (Holds (mul.Post tt) (a, (b, tt)))
  mul_determined = by_equation _

  -- The inverse of a code has one answer.
  pub inv_determined : Determines (Holds (inv.Post tt) (a, tt))
  inv_determined = by_equation _

  -- The power of a code, with its number of multiplications, has one answer.
  pub pow_determined : Determines (Holds (pow.Post tt) (a, (b, tt)))
  pow_determined = by_equation _

  -- The number of multiplications for an exponent has one answer.
  pub pow_multiplications_determined : Determines (Holds (pow_multiplications.Post tt) (b, tt))
  pow_multiplications_determined = by_equation _

-- ---- calls that are lent a slice to read

module _ (κs : Lfts 1) (s s' : Bor (List ℕ)) where
  -- The test of words has one answer.
  pub well_formed_determined : Determines (λ r. well_formed_call.Post κs (s, tt) r (s', tt))
  well_formed_determined = by_equation _

  -- The signed count of words has one answer.
  pub signed_count_determined : Determines (λ r. signed_count.Post κs (s, tt) r (s', tt))
  signed_count_determined = by_equation _

  -- The value of coefficients at a code has one answer.
  pub eval_determined : (x : ℕ) → Determines (λ r. eval.Post κs (s, (x, tt)) r (s', (x, tt)))
  eval_determined x = by_equation _

-- ---- calls that are lent words or a buffer to write

module _ (κs : Lfts 1) (s : MutBor (List ℕ)) (n : ℕ) where
  -- Making a sketch has one answer, and leaves one list of words.
  pub new_determined : DeterminesBoth (λ r s₁. new.Post κs (n, (s, tt)) r (n, (s₁, tt)))
  new_determined = by_equations _ _

  -- Insertion has one answer, and leaves one list of words.
  pub insert_determined : DeterminesBoth (λ r s₁. insert.Post κs (s, (n, tt)) r (s₁, (n, tt)))
  insert_determined = by_equations _ _

  -- Removal has one answer, and leaves one list of words.
  pub remove_determined : DeterminesBoth (λ r s₁. remove.Post κs (s, (n, tt)) r (s₁, (n, tt)))
  remove_determined = by_equations _ _

-- s is read, and out is written.
module _ (κs : Lfts 2) (s s' : Bor (List ℕ)) (out : MutBor (List ℕ)) where
  -- Subtraction in place has one answer, and leaves one list of words.
  pub sub_assign_determined : DeterminesBoth (λ r out₁. sub_assign.Post κs (out, (s, tt)) r (out₁, (s', tt)))
  sub_assign_determined = by_equations _ _

  -- Negation has one answer, and leaves one list of words.
  pub negate_determined : DeterminesBoth (λ r out₁. negate.Post κs (s, (out, tt)) r (s', (out₁, tt)))
  negate_determined = by_equations _ _

  -- The coefficients of a sketch have one answer, and leave one list of numbers in the buffer.
  pub to_coeffs_determined : DeterminesBoth (λ r out₁. to_coeffs.Post κs (s, (out, tt)) r (s', (out₁, tt)))
  to_coeffs_determined = by_equations _ _

  -- Writing a packet has one answer, and leaves one list of bytes.
  pub serialize_determined : DeterminesBoth (λ r out₁. serialize.Post κs (s, (out, tt)) r (s', (out₁, tt)))
  serialize_determined = by_equations _ _

  -- Writing a packet with a hint has one answer, and leaves one list of bytes.
  pub serialize_with_hint_determined : (h : ℕ) → DeterminesBoth (λ r out₁. serialize_with_hint.Post κs (s, (out, (h, tt))) r (s', (out₁, (h, tt))))
  serialize_with_hint_determined h = by_equations _ _

  -- Reading a packet has one answer, and leaves one list of words.
  pub deserialize_determined : DeterminesBoth (λ r out₁. deserialize.Post κs (s, (out, tt)) r (s', (out₁, tt)))
  deserialize_determined = by_equations _ _

module _ (κs : Lfts 3) (s s' o o' : Bor (List ℕ)) (out : MutBor (List ℕ)) where
  -- Subtraction of two sketches has one answer, and leaves one list of words.
  pub sub_determined : DeterminesBoth (λ r out₁. sub.Post κs (s, (o, (out, tt))) r (s', (o', (out₁, tt))))
  sub_determined = by_equations _ _

  -- Decoding a log has one answer, and leaves one list of entries in the buffer.
  pub decode_with_log_determined : DeterminesBoth (λ r out₁. decode_with_log.Post κs (s, (o, (out, tt))) r (s', (o', (out₁, tt))))
  decode_with_log_determined = by_equations _ _

  -- Decoding the surplus has one answer, and leaves one list of codes in the buffer.
  pub decode_surplus_with_log_determined : DeterminesBoth (λ r out₁. decode_surplus_with_log.Post κs (s, (o, (out, tt))) r (s', (o', (out₁, tt))))
  decode_surplus_with_log_determined = by_equations _ _

-- Two wrong answers for each exported call, or a wrong answer and wrong words or bytes left, at one input each: the contract allows neither. And no call that
-- may refuse is met by refusing that input.
-- Assumes nothing.
use Rattle.std.proofs.Common.{ℕ, ◌+◌, ◌-◌, ◌%◌, ◌^◌, List, [], ◌∷◌, ◌++◌, get_or, replicate, pos, negsuc, refl, Bor}
use contract.Lifetimes.{Lfts}
use Rattle.numbers.specs.Power.{power_mod, power_within}
use Rattle.numbers.specs.Table.{every}
use Rattle.exports16_c.specs.declared.field.Powered.{Powered}
use Rattle.rules.specs.Kind.{kind16, counts, bits}
use Rattle.rules.specs.Field.{residue, multiplications}
use Rattle.rules.specs.Signed.{signed_count, below_zero}
use Rattle.rules.specs.Sketch as sketch
use Rattle.rules.specs.Sketch.{fresh, each, well_formed}
use Rattle.rules.specs.Packet.{bytes, number, all_bytes, all_numbers, packet, packet_length, sketch_in}
use Rattle.rules.specs.Decode as decoding
use Rattle.rules.specs.Calls as calls
use Rattle.rules.specs.Words.{said_by, words_fit, words_of, new_in, insert_in, remove_in, sub_assign_in, sub_in, coefficients_in, decode_in, write_in, write_with_hint_in}
use Rattle.rules.specs.Words.{head_words, has_at, head, read_in, negate_in, decode_surplus_in}
use Rattle.rules.specs.Determines.{Holds, RefusesBoth, RefusesAll, MustAnswer}
use Rattle.rules.proofs.Determined.{lent, lent_mut, both_differ, must_answer, all_differ}
use Rattle.lent.specs.declared.Number.{Number}
use Rattle.exports16_c.specs.declared.evaluator.Evaluated.{Evaluated}
use Rattle.exports16_c.proofs.power_sum.eddy16_new.Reads as new
use Rattle.exports16_c.proofs.power_sum.eddy16_well_formed.Reads as well_formed_call
use Rattle.exports16_c.proofs.power_sum.eddy16_insert.Reads as insert
use Rattle.exports16_c.proofs.power_sum.eddy16_remove.Reads as remove
use Rattle.exports16_c.proofs.power_sum.eddy16_sub_assign.Reads as sub_assign
use Rattle.exports16_c.proofs.power_sum.eddy16_sub.Reads as sub
use Rattle.exports16_c.proofs.evaluator.eddy16_eval.Reads as eval
use Rattle.exports16_c.proofs.decoder.eddy16_to_coeffs.Reads as to_coeffs
use Rattle.exports16_c.proofs.decoder.eddy16_decode_with_log.Reads as decode_with_log
use Rattle.exports16_c.proofs.surplus.eddy16_signed_count.Reads as signed_count
use Rattle.exports16_c.proofs.surplus.eddy16_negate.Reads as negate
use Rattle.exports16_c.proofs.surplus.eddy16_decode_surplus_with_log.Reads as decode_surplus_with_log
use Rattle.exports16_c.proofs.packet.eddy16_serialize.Reads as serialize
use Rattle.exports16_c.proofs.packet.eddy16_serialize_with_hint.Reads as serialize_with_hint
use Rattle.exports16_c.proofs.packet.eddy16_deserialize.Reads as deserialize
use Rattle.exports16_c.proofs.field.eddy16_field_reduce.Reads as reduce
use Rattle.exports16_c.proofs.field.eddy16_field_add.Reads as add
use Rattle.exports16_c.proofs.field.eddy16_field_sub.Reads as minus
use Rattle.exports16_c.proofs.field.eddy16_field_neg.Reads as neg
use Rattle.exports16_c.proofs.field.eddy16_field_mul.Reads as mul
use Rattle.exports16_c.proofs.field.eddy16_field_inv.Reads as inv
use Rattle.exports16_c.proofs.field.eddy16_field_pow.Reads as pow
use Rattle.exports16_c.proofs.field.eddy16_field_pow_multiplications.Reads as pow_multiplications

-- So many were written.
abbrev counted : ℕ → Number
counted n = record { refusal = 0; value = n }

-- What is read off an answer, and off a list.
abbrev itself : ℕ → ℕ
itself n = n

abbrev many : Number → ℕ
many r = r.value

abbrev refused : Number → ℕ
refused r = r.refusal

abbrev at : ℕ → List ℕ → ℕ
at k l = get_or l k 0

-- The words of a sketch of threshold 3 with 10 and 12 inserted, those of one with both removed, those of a fresh one, and so many words 9.
abbrev both : List ℕ
both = head kind16 3 2 1 12 ++ 22 ∷ 244 ∷ 2728 ∷ []

abbrev gone : List ℕ
gone = head kind16 3 (counts - 2) 0 0 ++ (kind16.modulus - 22) ∷ (kind16.modulus - 244) ∷ (kind16.modulus - 2728) ∷ []

abbrev none : List ℕ
none = head kind16 3 0 0 0 ++ 0 ∷ 0 ∷ 0 ∷ []

abbrev nines : ℕ → List ℕ
nines n = replicate n 9

-- ---- the field

-- The code as it stands, or less 2^16.
pub reduce_wrong : RefusesBoth (Holds (reduce.Post tt) (kind16.modulus + 1, tt)) (kind16.modulus + 1) 65535
reduce_wrong = both_differ itself _ _ refl refl

-- The sum unreduced, or in 16 bits.
pub add_wrong : RefusesBoth (Holds (add.Post tt) (65520, (20, tt))) (65520 + 20) ((65520 + 20) % 2 ^ bits kind16)
add_wrong = both_differ itself _ _ refl refl

-- The difference the other way, or in 16 bits.
pub minus_wrong : RefusesBoth (Holds (minus.Post tt) (3, (5, tt))) 2 65534
minus_wrong = both_differ itself _ _ refl refl

-- The prime for 0, or 1.
pub neg_wrong : RefusesBoth (Holds (neg.Post tt) (0, tt)) 65521 1
neg_wrong = both_differ itself _ _ refl refl

-- The product in 16 bits, or the residue of a factor.
pub mul_wrong : RefusesBoth (Holds (mul.Post tt) (65535, (65535, tt))) 1 (residue kind16 65535)
mul_wrong = both_differ itself _ _ refl refl

-- 1 for the inverse of 0, or the prime less 1.
pub inv_wrong : RefusesBoth (Holds (inv.Post tt) (0, tt)) 1 65520
unfolding power_mod power_within
inv_wrong = both_differ itself _ _ refl refl

-- The factor for the power, or no multiplications.
pub pow_wrong : RefusesBoth (Holds (pow.Post tt) (3, (5, tt)))
    (record { value = 15; multiplications = 3 }) (record { value = 243; multiplications = 0 })
unfolding power_mod power_within multiplications
pow_wrong = both_differ (λ (r : Powered). r.value + r.multiplications) _ _ refl refl

-- As many as the exponent, or none.
pub pow_multiplications_wrong : RefusesBoth (Holds (pow_multiplications.Post tt) (5, tt)) 5 0
unfolding multiplications
pow_multiplications_wrong = both_differ itself _ _ refl refl

-- ---- a sketch

-- Threshold 3 is refused, or the word behind those of the sketch is changed.
pub new_wrong : (κs : Lfts 1)
    → RefusesAll itself (λ r s₁. new.Post κs (3, (lent_mut (nines (head_words kind16 + 4)), tt)) r (3, (s₁, tt))) 5 (none ++ 0 ∷ [])
unfolding new_in calls.make fresh words_of
new_wrong κs = all_differ itself itself (at (head_words kind16 + 3)) _ _ refl refl refl

-- Words of a sketch are said to be none, or 2 is said.
pub well_formed_wrong : (κs : Lfts 1) (s₁ : Bor (List ℕ)) → RefusesBoth (λ r. well_formed_call.Post κs (lent both, tt) r (s₁, tt)) 0 2
unfolding every well_formed words_fit
well_formed_wrong κs s₁ = both_differ itself _ _ refl refl

-- An insertion is refused, or nothing is inserted.
pub insert_wrong : (κs : Lfts 1)
    → RefusesAll itself (λ r s₁. insert.Post κs (lent_mut (none ++ 9 ∷ []), (10, tt)) r (s₁, (10, tt))) 12 (none ++ 9 ∷ [])
unfolding fresh each every well_formed said_by words_fit words_of insert_in calls.insert sketch.insert
insert_wrong κs = all_differ itself itself (at 1) _ _ refl refl refl

-- A removal of the greatest code is refused, or its residue is kept as the last code.
pub remove_wrong : (κs : Lfts 1) → let x = residue kind16 65535 in
    RefusesAll itself (λ r s₁. remove.Post κs (lent_mut (head kind16 1 1 1 x ++ x ∷ []), (65535, tt)) r (s₁, (65535, tt))) 12
    (head kind16 1 0 1 x ++ 0 ∷ [])
unfolding fresh each every well_formed said_by words_fit words_of remove_in calls.remove sketch.remove
remove_wrong κs = all_differ itself itself (at (has_at kind16)) _ _ refl refl refl

-- Equal thresholds are refused, or the last code is kept.
pub sub_assign_wrong : (κs : Lfts 2) (s' : Bor (List ℕ))
    → RefusesAll itself (λ r s₁. sub_assign.Post κs (lent_mut both, (lent none, tt)) r (s₁, (s', tt))) 2 both
unfolding fresh each every well_formed said_by words_fit words_of sub_assign_in calls.sub_assign sketch.subtract
sub_assign_wrong κs s' = all_differ itself itself (at (has_at kind16)) _ _ refl refl refl

-- Thresholds that differ are refused, or the greater is kept.
pub sub_wrong : (κs : Lfts 3) (s' o' : Bor (List ℕ))
    → RefusesAll itself (λ r s₁. sub.Post κs (lent both, (lent (head kind16 2 0 0 0 ++ 0 ∷ 0 ∷ []), (lent_mut (nines (head_words kind16 + 4)), tt))) r
    (s', (o', (s₁, tt)))) 2
    (head kind16 3 2 0 0 ++ 22 ∷ 244 ∷ 2728 ∷ 9 ∷ [])
unfolding fresh each every well_formed said_by words_fit words_of sub_in calls.sub sketch.subtract
sub_wrong κs s' o' = all_differ itself itself (at 0) _ _ refl refl refl

-- Two below nothing are taken as they are counted, or as one below nothing.
pub signed_count_wrong : (κs : Lfts 1) (s₁ : Bor (List ℕ))
    → RefusesBoth (λ r. signed_count.Post κs (lent gone, tt) r (s₁, tt)) (pos (counts - 2)) (negsuc 0)
unfolding signed_count
signed_count_wrong κs s₁ = both_differ below_zero _ _ refl refl

-- Negation is refused, or the last code is kept.
pub negate_wrong : (κs : Lfts 2) (s' : Bor (List ℕ))
    → RefusesAll itself (λ r s₁. negate.Post κs (lent both, (lent_mut (nines (head_words kind16 + 4)), tt)) r (s', (s₁, tt))) 12
    (head kind16 3 (counts - 2) 1 12 ++ (kind16.modulus - 22) ∷ (kind16.modulus - 244) ∷ (kind16.modulus - 2728) ∷ 9 ∷ [])
unfolding fresh each every well_formed said_by words_fit words_of negate_in calls.negate sketch.negate
negate_wrong κs s' = all_differ itself itself (at (has_at kind16)) _ _ refl refl refl

-- ---- lists

-- The code for the value at it, or a refusal.
pub eval_wrong : (κs : Lfts 1) (s₁ : Bor (List ℕ))
    → RefusesBoth (λ r. eval.Post κs (lent (1 ∷ []), (3, tt)) r (s₁, (3, tt))) (record { refusal = 0; value = 3 }) (record { refusal = 8; value = 0 })
unfolding every calls.evaluate decoding.evaluate
eval_wrong κs s₁ = both_differ (λ (r : Evaluated). r.value) _ _ refl refl

-- The value of one coefficient at the code 3 is not refused.
pub eval_must_answer : (κs : Lfts 1) (s₁ : Bor (List ℕ))
    → MustAnswer (λ (r : Evaluated). r.refusal) (λ r. eval.Post κs (lent (1 ∷ []), (3, tt)) r (s₁, (3, tt)))
unfolding every calls.evaluate decoding.evaluate
eval_must_answer κs s₁ = must_answer (λ (r : Evaluated). r.refusal) refl

-- One coefficient is counted, or they stand the other way round.
pub to_coeffs_wrong : (κs : Lfts 2) (s' : Bor (List ℕ))
    → RefusesAll refused (λ r s₁. to_coeffs.Post κs (lent both, (lent_mut (nines 2), tt)) r (s', (s₁, tt))) (counted 1) (120 ∷ 65499 ∷ [])
unfolding fresh each every well_formed said_by words_fit words_of coefficients_in calls.coefficients decoding.coefficients decoding.newest_first power_mod power_within
to_coeffs_wrong κs s' = all_differ refused many (at 0) _ _ refl refl refl

-- Both entries are counted, or the other one is listed.
pub decode_with_log_wrong : (κs : Lfts 3) (s' o' : Bor (List ℕ))
    → RefusesAll refused (λ r s₁. decode_with_log.Post κs (lent both, (lent (1 ∷ 10 ∷ []), (lent_mut (nines 2), tt))) r (s', (o', (s₁, tt)))) (counted 2)
    (1 ∷ 9 ∷ [])
unfolding fresh each every well_formed said_by words_fit words_of decode_in calls.decode decoding.decode decoding.evaluate decoding.coefficients
    decoding.newest_first power_mod power_within
decode_with_log_wrong κs s' o' = all_differ refused many (at 0) _ _ refl refl refl

-- Both codes are counted, or the other one is listed.
pub decode_surplus_with_log_wrong : (κs : Lfts 3) (s' o' : Bor (List ℕ))
    → RefusesAll refused (λ r s₁. decode_surplus_with_log.Post κs (lent gone, (lent (1 ∷ 10 ∷ []), (lent_mut (nines 2), tt))) r (s', (o', (s₁, tt)))) (counted 2)
    (1 ∷ 9 ∷ [])
unfolding fresh each every well_formed said_by words_fit words_of signed_count sketch.negate decode_surplus_in calls.decode_surplus decoding.surplus decoding.decode
    decoding.evaluate decoding.coefficients decoding.newest_first power_mod power_within
decode_surplus_with_log_wrong κs s' o' = all_differ refused many (at 0) _ _ refl refl refl

-- ---- packets

-- One byte too few is counted, or the count's highest byte comes first.
pub serialize_wrong : (κs : Lfts 2) (s' : Bor (List ℕ))
    → RefusesAll refused (λ r s₁. serialize.Post κs (lent both, (lent_mut (nines (packet_length kind16 3)), tt)) r (s', (s₁, tt)))
    (counted (packet_length kind16 3 - 1)) (0 ∷ 0 ∷ 0 ∷ 2 ∷ nines (packet_length kind16 3 - 4))
unfolding fresh each every well_formed said_by words_fit words_of write_in calls.write packet bytes all_bytes
serialize_wrong κs s' = all_differ refused many (at 0) _ _ refl refl refl

-- Every sum is written in spite of the hint, or the hint is the count.
pub serialize_with_hint_wrong : (κs : Lfts 2) (s' : Bor (List ℕ))
    → RefusesAll refused (λ r s₁. serialize_with_hint.Post κs (lent both, (lent_mut (nines (packet_length kind16 3)), (1, tt))) r (s', (s₁, (1, tt))))
    (counted (packet_length kind16 3)) (1 ∷ nines (packet_length kind16 3 - 1))
unfolding fresh each every well_formed said_by words_fit words_of write_with_hint_in calls.write_with_hint packet bytes all_bytes
serialize_with_hint_wrong κs s' = all_differ refused many (at 0) _ _ refl refl refl

-- The bytes of one sum are refused, or the count is forgotten.
pub deserialize_wrong : (κs : Lfts 2) (s' : Bor (List ℕ))
    → RefusesAll itself (λ r s₁. deserialize.Post κs (lent (2 ∷ replicate (packet_length kind16 1 - 1) 0), (lent_mut (nines (head_words kind16 + 2)), tt)) r
    (s', (s₁, tt))) 5
    (head kind16 1 0 1 0 ++ 0 ∷ 9 ∷ [])
unfolding read_in calls.read every number all_numbers sketch_in words_of
deserialize_wrong κs s' = all_differ itself itself (at 1) _ _ refl refl refl

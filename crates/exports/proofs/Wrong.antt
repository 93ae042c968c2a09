-- Two wrong answers for each public call, or a wrong answer and wrong words or bytes left, at one input each and at both widths: the contract allows neither.
-- And no call that may refuse is met by refusing that input. The call of codes of 16 bits alone stands in OneReductionGuards.
-- Assumes nothing.
use Rattle.std.proofs.Common.{◌≡◌, ℕ, ◌+◌, ◌-◌, ◌%◌, ◌^◌, true, false, List, [], ◌∷◌, ◌++◌, get_or, replicate, pos, negsuc, refl, sym, ◌∙◌, Bor, MutBor}
use Rattle.std.specs.Prelude.{Result, Ok, Err}
use denote.Builtin.{u16, u32}
use contract.Lifetimes.{Lfts}
use Rattle.numbers.specs.Power.{power_mod, power_within}
use Rattle.numbers.specs.Table.{every}
use Rattle.modint.specs.declared.Residue.{Residue}
use Rattle.modint.specs.declared.Powered.{Powered}
use Rattle.modint.proofs.Blocks as field
use Rattle.modint.proofs.Blocks.{word16, word32, AtBoth}
use Rattle.modint.proofs.Wrong.{itself, yes_or_no}
use Rattle.rules.specs.Kind.{Kind, kind16, kind32, counts, bits}
use Rattle.rules.specs.Field.{residue, multiplications, multiplications_within}
use Rattle.rules.specs.Signed.{signed_count, below_zero}
use Rattle.rules.specs.Sketch as sketch
use Rattle.rules.specs.Sketch.{fresh, each, well_formed}
use Rattle.rules.specs.Packet.{bytes, number, all_bytes, all_numbers, packet, packet_length, sketch_in}
use Rattle.rules.specs.Decode as decoding
use Rattle.rules.specs.Calls as calls
use Rattle.rules.specs.Words.{said_by, words_fit, words_of, new_in, insert_in, remove_in, sub_assign_in, sub_in, coefficients_in, decode_in, write_in, write_with_hint_in}
use Rattle.rules.specs.Words.{head_words, has_at, head, read_in, negate_in, decode_surplus_in}
use Rattle.rules.specs.Determines.{Holds, RefusesBoth, RefusesAll, MustAnswer}
use Rattle.rules.proofs.Determined.{lent, lent_mut, differs, both_differ, must_answer, all_differ}
use Rattle.lent.specs.declared.refusal.Refusal.{Refusal}
use Rattle.lent.specs.declared.refusal.Refusal.TheVariants.{ThresholdsDiffer, NoRoom, NotBelowPrime, NotWellFormed}
use Rattle.lent.specs.Refusals.{refusal_or_none}
use Rattle.exports.proofs.Blocks.{layout16, layout32, Passed, passing}
use Rattle.exports.proofs.layout.U16Layout.count_in.Reads as count_in16
use Rattle.exports.proofs.layout.U32Layout.count_in.Reads as count_in32
use Rattle.exports.proofs.layout.U16Layout.put_count.Reads as put_count16
use Rattle.exports.proofs.layout.U32Layout.put_count.Reads as put_count32
use Rattle.exports.proofs.power_sum.new.Reads as new
use Rattle.exports.proofs.power_sum.well_formed.Reads as well_formed_call
use Rattle.exports.proofs.power_sum.insert.Reads as insert
use Rattle.exports.proofs.power_sum.remove.Reads as remove
use Rattle.exports.proofs.power_sum.sub_assign.Reads as sub_assign
use Rattle.exports.proofs.power_sum.sub.Reads as sub
use Rattle.exports.proofs.evaluator.eval.Reads as eval
use Rattle.exports.proofs.decoder.to_coeffs.Reads as to_coeffs
use Rattle.exports.proofs.decoder.decode_with_log.Reads as decode_with_log
use Rattle.exports.proofs.surplus.signed_count.Reads as signed_count_call
use Rattle.exports.proofs.surplus.negate.Reads as negate
use Rattle.exports.proofs.surplus.decode_surplus_with_log.Reads as decode_surplus_with_log
use Rattle.exports.proofs.packet.serialize.Reads as serialize
use Rattle.exports.proofs.packet.serialize_with_hint.Reads as serialize_with_hint
use Rattle.exports.proofs.packet.deserialize.Reads as deserialize
use Rattle.exports.proofs.field.reduce.Reads as reduce
use Rattle.exports.proofs.field.add.Reads as add
use Rattle.exports.proofs.field.sub.Reads as minus
use Rattle.exports.proofs.field.neg.Reads as neg
use Rattle.exports.proofs.field.mul.Reads as mul
use Rattle.exports.proofs.field.inv.Reads as inv
use Rattle.exports.proofs.field.pow.Reads as pow
use Rattle.exports.proofs.field.pow_multiplications.Reads as pow_multiplications

-- How many an answer counts, 0 for a refusal.
abbrev many : Result ℕ Refusal → ℕ
many (Ok n) = n
many (Err e) = 0

-- The number of the residue that is answered, 0 for a refusal.
abbrev pub value_or_none : Result (Residue ℕ) Refusal → ℕ
value_or_none (Ok r) = r.0
value_or_none (Err e) = 0

-- The number at a place of a list.
abbrev at : ℕ → List ℕ → ℕ
at k l = get_or l k 0

-- The residue with this number.
abbrev pub wrap : ℕ → Residue ℕ
wrap n = record { 0 = n }

-- The words of a sketch of threshold 3 with 10 and 12 inserted.
abbrev both : Kind → List ℕ
both K = head K 3 2 1 12 ++ 22 ∷ 244 ∷ 2728 ∷ []

-- Those of one with both removed.
abbrev gone : Kind → List ℕ
gone K = head K 3 (counts - 2) 0 0 ++ (K.modulus - 22) ∷ (K.modulus - 244) ∷ (K.modulus - 2728) ∷ []

-- Those of a fresh one.
abbrev none : Kind → List ℕ
none K = head K 3 0 0 0 ++ 0 ∷ 0 ∷ 0 ∷ []

-- So many words 9.
abbrev nines : ℕ → List ℕ
nines n = replicate n 9

-- ---- a count

-- Of a threshold and one word of a count, the count is 0, or 1 in its upper half.
pub count_in_wrong : (κs : Lfts 1) (s₁ : Bor (List ℕ)) → AtBoth count_in16.Post count_in32.Post
    (λ post _. RefusesBoth (λ r. post κs (lent (3 ∷ 7 ∷ []), tt) r (s₁, tt)) 0 (65536 + 7))
count_in_wrong κs s₁ = (both_differ itself _ _ refl refl, both_differ itself _ _ refl refl)

-- Where one word of a count is there, nothing is stored, or the threshold is changed.
pub put_count_wrong : (κs : Lfts 1) → AtBoth put_count16.Post put_count32.Post
    (λ post _. ((s₁ : MutBor (List ℕ)) → s₁.now ≡ 3 ∷ 7 ∷ [] → post κs (lent_mut (3 ∷ 7 ∷ []), (65538, tt)) tt (s₁, (65538, tt)) → ⊥)
    × ((s₁ : MutBor (List ℕ)) → s₁.now ≡ 1 ∷ 2 ∷ [] → post κs (lent_mut (3 ∷ 7 ∷ []), (65538, tt)) tt (s₁, (65538, tt)) → ⊥))
put_count_wrong κs = (
  (λ s₁ e p. differs (at 1) (3 ∷ 7 ∷ []) refl (sym e ∙ p), λ s₁ e p. differs (at 0) (1 ∷ 2 ∷ []) refl (sym e ∙ p)),
  (λ s₁ e p. differs (at 1) (3 ∷ 7 ∷ []) refl (sym e ∙ p), λ s₁ e p. differs (at 0) (1 ∷ 2 ∷ []) refl (sym e ∙ p)),
)

-- ---- the field

module _ (p : field.Passed u16) (q : field.Passed u32) where
  module _ (κs : Lfts 1) where
    -- The code as it stands, or less the number of codes.
    pub reduce_wrong : AtBoth (field.passing word16 p reduce.Post) (field.passing word32 q reduce.Post)
        (λ post w. RefusesBoth (Holds (post κs) (w.kind.modulus + 1, tt)) (w.kind.modulus + 1) w.most)
    reduce_wrong = (both_differ itself _ _ refl refl, both_differ itself _ _ refl refl)

    -- The sum unreduced, or in the bits of a code.
    pub add_wrong : AtBoth (field.passing word16 p add.Post) (field.passing word32 q add.Post)
        (λ post w. RefusesBoth (Holds (post κs) (w.prime - 1, (20, tt))) (w.prime - 1 + 20) ((w.prime - 1 + 20) % 2 ^ bits w.kind))
    add_wrong = (both_differ itself _ _ refl refl, both_differ itself _ _ refl refl)

    -- The difference the other way, or in the bits of a code.
    pub minus_wrong : AtBoth (field.passing word16 p minus.Post) (field.passing word32 q minus.Post)
        (λ post w. RefusesBoth (Holds (post κs) (3, (5, tt))) 2 (w.most - 1))
    minus_wrong = (both_differ itself _ _ refl refl, both_differ itself _ _ refl refl)

    -- The prime for 0, or 1.
    pub neg_wrong : AtBoth (field.passing word16 p neg.Post) (field.passing word32 q neg.Post)
        (λ post w. RefusesBoth (Holds (post κs) (0, tt)) w.prime 1)
    neg_wrong = (both_differ itself _ _ refl refl, both_differ itself _ _ refl refl)

    -- The product in the bits of a code, or the residue of a factor.
    pub mul_wrong : AtBoth (field.passing word16 p mul.Post) (field.passing word32 q mul.Post)
        (λ post w. RefusesBoth (Holds (post κs) (w.most, (w.most, tt))) 1 (residue w.kind w.most))
    mul_wrong = (both_differ itself _ _ refl refl, both_differ itself _ _ refl refl)

    -- 1 for the inverse of 0, or the prime less 1.
    pub inv_wrong : AtBoth (field.passing word16 p inv.Post) (field.passing word32 q inv.Post)
        (λ post w. RefusesBoth (Holds (post κs) (0, tt)) 1 (w.prime - 1))
    unfolding power_mod power_within
    inv_wrong = (both_differ itself _ _ refl refl, both_differ itself _ _ refl refl)

    -- The factor for the power, or no multiplications.
    pub pow_wrong : AtBoth (field.passing word16 p pow.Post) (field.passing word32 q pow.Post)
        (λ post w. RefusesBoth (Holds (post κs) (3, (5, tt))) (record { value = wrap 15; multiplications = 3 }) (record { value = wrap 243; multiplications = 0 }))
    unfolding power_mod power_within multiplications multiplications_within
    pow_wrong = (
      both_differ (λ (r : Powered ℕ). r.value.0 + r.multiplications) _ _ refl refl,
      both_differ (λ (r : Powered ℕ). r.value.0 + r.multiplications) _ _ refl refl,
    )

    -- As many as the exponent, or none.
    pub pow_multiplications_wrong : AtBoth (field.passing word16 p pow_multiplications.Post) (field.passing word32 q pow_multiplications.Post)
        (λ post _. RefusesBoth (Holds (post κs) (5, tt)) 5 0)
    unfolding multiplications multiplications_within
    pow_multiplications_wrong = (both_differ itself _ _ refl refl, both_differ itself _ _ refl refl)

  module _ (κs : Lfts 2) (s₁ : Bor (List ℕ)) where
    -- The code for the value at it, or a refusal.
    pub eval_wrong : AtBoth (field.passing word16 p eval.Post) (field.passing word32 q eval.Post)
        (λ post _. RefusesBoth (λ r. post κs (lent (1 ∷ []), (3, tt)) r (s₁, (3, tt))) (Ok (wrap 3)) (Err NotBelowPrime))
    unfolding every calls.evaluate decoding.evaluate
    eval_wrong = (both_differ value_or_none _ _ refl refl, both_differ value_or_none _ _ refl refl)

    -- The value of one coefficient at the code 3 is not refused.
    pub eval_must_answer : AtBoth (field.passing word16 p eval.Post) (field.passing word32 q eval.Post)
        (λ post _. MustAnswer refusal_or_none (λ r. post κs (lent (1 ∷ []), (3, tt)) r (s₁, (3, tt))))
    unfolding every calls.evaluate decoding.evaluate
    eval_must_answer = (must_answer refusal_or_none refl, must_answer refusal_or_none refl)

module _ (p : Passed u16) (q : Passed u32) where
  -- ---- a sketch

  module _ (κs : Lfts 2) where
    -- Threshold 3 is refused, or the word behind those of the sketch is changed.
    pub new_wrong : AtBoth (passing layout16 word16 p new.Post) (passing layout32 word32 q new.Post)
        (λ post w. RefusesAll refusal_or_none (λ r s₁. post κs (3, (lent_mut (nines (head_words w.kind + 4)), tt)) r (3, (s₁, tt))) (Err NoRoom) (none w.kind ++ 0 ∷ []))
    unfolding new_in calls.make fresh words_of
    new_wrong = (
      all_differ refusal_or_none refusal_or_none (at (head_words kind16 + 3)) _ _ refl refl refl,
      all_differ refusal_or_none refusal_or_none (at (head_words kind32 + 3)) _ _ refl refl refl,
    )

    -- Words of a sketch are said to be none, or those that say a last code by 2 to be some.
    pub well_formed_wrong : (s₁ : Bor (List ℕ)) → AtBoth (passing layout16 word16 p well_formed_call.Post) (passing layout32 word32 q well_formed_call.Post)
        (λ post w. (post κs (lent (both w.kind), tt) false (s₁, tt) → ⊥)
        × (post κs (lent (head w.kind 3 2 2 12 ++ 22 ∷ 244 ∷ 2728 ∷ []), tt) true (s₁, tt) → ⊥))
    unfolding every well_formed words_fit
    well_formed_wrong s₁ = ((differs yes_or_no false refl, differs yes_or_no true refl), (differs yes_or_no false refl, differs yes_or_no true refl))

    -- An insertion is refused, or nothing is inserted.
    pub insert_wrong : AtBoth (passing layout16 word16 p insert.Post) (passing layout32 word32 q insert.Post)
        (λ post w. RefusesAll refusal_or_none (λ r s₁. post κs (lent_mut (none w.kind ++ 9 ∷ []), (10, tt)) r (s₁, (10, tt))) (Err NotWellFormed) (none w.kind ++ 9 ∷ []))
    unfolding fresh each every well_formed said_by words_fit words_of insert_in calls.insert sketch.insert
    insert_wrong = (all_differ refusal_or_none refusal_or_none (at 1) _ _ refl refl refl, all_differ refusal_or_none refusal_or_none (at 1) _ _ refl refl refl)

    -- A removal of the greatest code is refused, or its residue is kept as the last code.
    pub remove_wrong : AtBoth (passing layout16 word16 p remove.Post) (passing layout32 word32 q remove.Post)
        (λ post w. let x = residue w.kind w.most in
        RefusesAll refusal_or_none (λ r s₁. post κs (lent_mut (head w.kind 1 1 1 x ++ x ∷ []), (w.most, tt)) r (s₁, (w.most, tt))) (Err NotWellFormed)
        (head w.kind 1 0 1 x ++ 0 ∷ []))
    unfolding fresh each every well_formed said_by words_fit words_of remove_in calls.remove sketch.remove
    remove_wrong = (
      all_differ refusal_or_none refusal_or_none (at (has_at kind16)) _ _ refl refl refl,
      all_differ refusal_or_none refusal_or_none (at (has_at kind32)) _ _ refl refl refl,
    )

    -- Two below nothing are taken as they are counted, or as one below nothing.
    pub signed_count_wrong : (s₁ : Bor (List ℕ)) → AtBoth (passing layout16 word16 p signed_count_call.Post) (passing layout32 word32 q signed_count_call.Post)
        (λ post w. RefusesBoth (λ r. post κs (lent (gone w.kind), tt) r (s₁, tt)) (pos (counts - 2)) (negsuc 0))
    unfolding signed_count
    signed_count_wrong s₁ = (both_differ below_zero _ _ refl refl, both_differ below_zero _ _ refl refl)

  module _ (κs : Lfts 3) (s' : Bor (List ℕ)) where
    -- Equal thresholds are refused, or the last code is kept.
    pub sub_assign_wrong : AtBoth (passing layout16 word16 p sub_assign.Post) (passing layout32 word32 q sub_assign.Post)
        (λ post w. RefusesAll refusal_or_none (λ r s₁. post κs (lent_mut (both w.kind), (lent (none w.kind), tt)) r (s₁, (s', tt))) (Err ThresholdsDiffer) (both w.kind))
    unfolding fresh each every well_formed said_by words_fit words_of sub_assign_in calls.sub_assign sketch.subtract
    sub_assign_wrong = (
      all_differ refusal_or_none refusal_or_none (at (has_at kind16)) _ _ refl refl refl,
      all_differ refusal_or_none refusal_or_none (at (has_at kind32)) _ _ refl refl refl,
    )

    -- Negation is refused, or the last code is kept.
    pub negate_wrong : AtBoth (passing layout16 word16 p negate.Post) (passing layout32 word32 q negate.Post)
        (λ post w. RefusesAll refusal_or_none (λ r s₁. post κs (lent (both w.kind), (lent_mut (nines (head_words w.kind + 4)), tt)) r (s', (s₁, tt))) (Err NotWellFormed)
        (head w.kind 3 (counts - 2) 1 12 ++ (w.prime - 22) ∷ (w.prime - 244) ∷ (w.prime - 2728) ∷ 9 ∷ []))
    unfolding fresh each every well_formed said_by words_fit words_of negate_in calls.negate sketch.negate
    negate_wrong = (
      all_differ refusal_or_none refusal_or_none (at (has_at kind16)) _ _ refl refl refl,
      all_differ refusal_or_none refusal_or_none (at (has_at kind32)) _ _ refl refl refl,
    )

    -- ---- lists

    -- One coefficient is counted, or they stand the other way round.
    pub to_coeffs_wrong : AtBoth (passing layout16 word16 p to_coeffs.Post) (passing layout32 word32 q to_coeffs.Post)
        (λ post w. RefusesAll refusal_or_none (λ r s₁. post κs (lent (both w.kind), (lent_mut (nines 2), tt)) r (s', (s₁, tt))) (Ok 1) (120 ∷ (w.prime - 22) ∷ []))
    unfolding fresh each every well_formed said_by words_fit words_of coefficients_in calls.coefficients decoding.coefficients decoding.newest_first power_mod
        power_within
    to_coeffs_wrong = (all_differ refusal_or_none many (at 0) _ _ refl refl refl, all_differ refusal_or_none many (at 0) _ _ refl refl refl)

    -- ---- packets

    -- One byte too few is counted, or the count's highest byte comes first.
    pub serialize_wrong : AtBoth (passing layout16 word16 p serialize.Post) (passing layout32 word32 q serialize.Post)
        (λ post w. let long = packet_length w.kind 3 in
        RefusesAll refusal_or_none (λ r s₁. post κs (lent (both w.kind), (lent_mut (nines long), tt)) r (s', (s₁, tt))) (Ok (long - 1)) (0 ∷ 0 ∷ 0 ∷ 2 ∷ nines (long - 4)))
    unfolding fresh each every well_formed said_by words_fit words_of write_in calls.write packet bytes all_bytes
    serialize_wrong = (all_differ refusal_or_none many (at 0) _ _ refl refl refl, all_differ refusal_or_none many (at 0) _ _ refl refl refl)

    -- Every sum is written in spite of the hint, or the hint is the count.
    pub serialize_with_hint_wrong : AtBoth (passing layout16 word16 p serialize_with_hint.Post) (passing layout32 word32 q serialize_with_hint.Post)
        (λ post w. let long = packet_length w.kind 3 in
        RefusesAll refusal_or_none (λ r s₁. post κs (lent (both w.kind), (lent_mut (nines long), (1, tt))) r (s', (s₁, (1, tt)))) (Ok long) (1 ∷ nines (long - 1)))
    unfolding fresh each every well_formed said_by words_fit words_of write_with_hint_in calls.write_with_hint packet bytes all_bytes
    serialize_with_hint_wrong = (all_differ refusal_or_none many (at 0) _ _ refl refl refl, all_differ refusal_or_none many (at 0) _ _ refl refl refl)

    -- The bytes of one sum are refused, or the count is forgotten.
    pub deserialize_wrong : AtBoth (passing layout16 word16 p deserialize.Post) (passing layout32 word32 q deserialize.Post)
        (λ post w. RefusesAll refusal_or_none
        (λ r s₁. post κs (lent (2 ∷ replicate (packet_length w.kind 1 - 1) 0), (lent_mut (nines (head_words w.kind + 2)), tt)) r (s', (s₁, tt))) (Err NoRoom)
        (head w.kind 1 0 1 0 ++ 0 ∷ 9 ∷ []))
    unfolding read_in calls.read every number all_numbers sketch_in words_of
    deserialize_wrong = (all_differ refusal_or_none refusal_or_none (at 1) _ _ refl refl refl, all_differ refusal_or_none refusal_or_none (at 1) _ _ refl refl refl)

  module _ (κs : Lfts 4) (s' o' : Bor (List ℕ)) where
    -- Thresholds that differ are refused, or the greater is kept.
    pub sub_wrong : AtBoth (passing layout16 word16 p sub.Post) (passing layout32 word32 q sub.Post)
        (λ post w. RefusesAll refusal_or_none
        (λ r s₁. post κs (lent (both w.kind), (lent (head w.kind 2 0 0 0 ++ 0 ∷ 0 ∷ []), (lent_mut (nines (head_words w.kind + 4)), tt))) r (s', (o', (s₁, tt))))
        (Err ThresholdsDiffer) (head w.kind 3 2 0 0 ++ 22 ∷ 244 ∷ 2728 ∷ 9 ∷ []))
    unfolding fresh each every well_formed said_by words_fit words_of sub_in calls.sub sketch.subtract
    sub_wrong = (all_differ refusal_or_none refusal_or_none (at 0) _ _ refl refl refl, all_differ refusal_or_none refusal_or_none (at 0) _ _ refl refl refl)

    -- Both entries are counted, or the other one is listed.
    pub decode_with_log_wrong : AtBoth (passing layout16 word16 p decode_with_log.Post) (passing layout32 word32 q decode_with_log.Post)
        (λ post w. RefusesAll refusal_or_none (λ r s₁. post κs (lent (both w.kind), (lent (1 ∷ 10 ∷ []), (lent_mut (nines 2), tt))) r (s', (o', (s₁, tt)))) (Ok 2)
        (1 ∷ 9 ∷ []))
    unfolding fresh each every well_formed said_by words_fit words_of decode_in calls.decode decoding.decode decoding.evaluate decoding.coefficients
        decoding.newest_first power_mod power_within
    decode_with_log_wrong = (all_differ refusal_or_none many (at 0) _ _ refl refl refl, all_differ refusal_or_none many (at 0) _ _ refl refl refl)

    -- Both codes are counted, or the other one is listed.
    pub decode_surplus_with_log_wrong : AtBoth (passing layout16 word16 p decode_surplus_with_log.Post) (passing layout32 word32 q decode_surplus_with_log.Post)
        (λ post w. RefusesAll refusal_or_none (λ r s₁. post κs (lent (gone w.kind), (lent (1 ∷ 10 ∷ []), (lent_mut (nines 2), tt))) r (s', (o', (s₁, tt)))) (Ok 2)
        (1 ∷ 9 ∷ []))
    unfolding fresh each every well_formed said_by words_fit words_of signed_count sketch.negate decode_surplus_in calls.decode_surplus decoding.surplus
        decoding.decode decoding.evaluate decoding.coefficients decoding.newest_first power_mod power_within
    decode_surplus_with_log_wrong = (all_differ refusal_or_none many (at 0) _ _ refl refl refl, all_differ refusal_or_none many (at 0) _ _ refl refl refl)

-- Two wrong answers for each public call of the sketch, at one input each and at both widths: the contract allows neither.
-- Assumes nothing.
use Rattle.std.proofs.Common.{ℕ, ◌+◌, ◌-◌, ◌^◌, true, false, List, [], ◌∷◌, get_or, replicate, pos, negsuc, refl, Bor}
use Rattle.std.specs.Prelude.{Option, Some, None, Result, Ok, Err}
use denote.Builtin.{u16, u32}
use contract.Lifetimes.{Lfts}
use Rattle.numbers.specs.Power.{power_mod, power_within}
use Rattle.numbers.specs.Table.{every}
use Rattle.modint.specs.declared.Residue.{Residue}
use Rattle.modint.specs.Width.{Width, width16, width32}
use Rattle.modint.specs.Answers.{wrap}
use Rattle.modint.proofs.Blocks.{word16, word32, Passed, passing}
use Rattle.modint.proofs.Wrong.{itself, yes_or_no}
use Rattle.rules.specs.Kind.{counts}
use Rattle.rules.specs.Field.{residue}
use Rattle.rules.specs.Signed.{signed_count, below_zero}
use Rattle.rules.specs.Sketch as sketch
use Rattle.rules.specs.Sketch.{fresh, no_sketch, each, well_formed}
use Rattle.rules.specs.Packet.{bytes, number, all_bytes, all_numbers, packet, packet_length, sketch_in}
use Rattle.rules.specs.Decode as decoding
use Rattle.rules.specs.Calls as calls
use Rattle.rules.specs.Determines.{Holds, RefusesBoth, RefusesEither}
use Rattle.rules.proofs.Determined.{lent, lent_mut, differs, both_differ, either_differs}
use Rattle.lent.specs.declared.refusal.Refusal.{Refusal}
use Rattle.lent.specs.declared.refusal.Refusal.TheVariants.{ThresholdsDiffer, NoLastCode, NotWellFormed}
use Rattle.lent.specs.Refusals.{refusal_or_none}
use Rattle.power_sum.specs.declared.power_sum.PowerSumQuack.{PowerSumQuack}
use Rattle.power_sum.specs.Answers.{built, new_of, insert_of, remove_of, sub_assign_of, sub_of, coefficients_of, decode_of}
use Rattle.power_sum.specs.Answers.{negate_of, decode_surplus_of, write_of, write_with_hint_of, read_of}
use Rattle.power_sum.proofs.Idle.{AtBoth, code, none, both, gone, refusal, first_sum}
use Rattle.power_sum.proofs.power_sum.PowerSumQuack.new.Reads as new
use Rattle.power_sum.proofs.power_sum.PowerSumQuack.blank.Reads as blank
use Rattle.power_sum.proofs.power_sum.PowerSumQuack.threshold.Reads as threshold
use Rattle.power_sum.proofs.power_sum.PowerSumQuack.count.Reads as count
use Rattle.power_sum.proofs.power_sum.PowerSumQuack.last_value.Reads as last_value
use Rattle.power_sum.proofs.power_sum.PowerSumQuack.well_formed.Reads as well_formed_call
use Rattle.power_sum.proofs.power_sum.PowerSumQuack.insert.Reads as insert
use Rattle.power_sum.proofs.power_sum.PowerSumQuack.remove.Reads as remove
use Rattle.power_sum.proofs.power_sum.PowerSumQuack.insert_in_place.Reads as insert_in_place
use Rattle.power_sum.proofs.power_sum.PowerSumQuack.remove_in_place.Reads as remove_in_place
use Rattle.power_sum.proofs.power_sum.PowerSumQuack.insert_once.Reads as insert_once
use Rattle.power_sum.proofs.power_sum.PowerSumQuack.remove_once.Reads as remove_once
use Rattle.power_sum.proofs.power_sum.PowerSumQuack.sub_assign.Reads as sub_assign
use Rattle.power_sum.proofs.power_sum.PowerSumQuack.sub.Reads as sub
use Rattle.power_sum.proofs.power_sum.PowerSumQuack.signed_count.Reads as signed_count
use Rattle.power_sum.proofs.power_sum.PowerSumQuack.negate.Reads as negate
use Rattle.power_sum.proofs.power_sum.PowerSumQuack.to_coeffs.Reads as to_coeffs
use Rattle.power_sum.proofs.power_sum.PowerSumQuack.decode_with_log.Reads as decode_with_log
use Rattle.power_sum.proofs.power_sum.PowerSumQuack.decode_surplus_with_log.Reads as decode_surplus_with_log
use Rattle.power_sum.proofs.power_sum.PowerSumQuack.serialize.Reads as serialize
use Rattle.power_sum.proofs.power_sum.PowerSumQuack.serialize_with_hint.Reads as serialize_with_hint
use Rattle.power_sum.proofs.power_sum.PowerSumQuack.deserialize.Reads as deserialize

-- What is read off a sketch: a count, and the number of a last code, 0 for none.
abbrev counted : PowerSumQuack ℕ → ℕ
counted s = s.count

abbrev threshold_and_count : PowerSumQuack ℕ → ℕ
threshold_and_count s = s.threshold + s.count

abbrev last_number : Option (Residue ℕ) → ℕ
last_number None = 0
last_number (Some x) = x.0

-- What is read off an answer: the same of its sketch, and its threshold; off a number that was written, and off a list, the number at a place.
abbrev count_of : Result (PowerSumQuack ℕ) Refusal → ℕ
count_of (Ok s) = s.count
count_of (Err e) = 0

abbrev threshold_of : Result (PowerSumQuack ℕ) Refusal → ℕ
threshold_of (Ok s) = s.threshold
threshold_of (Err e) = 0

abbrev last_of : Result (PowerSumQuack ℕ) Refusal → ℕ
last_of (Ok s) = last_number s.last
last_of (Err e) = 0

abbrev many : Result ℕ Refusal → ℕ
many (Ok n) = n
many (Err e) = 0

abbrev first : List ℕ → ℕ
first l = get_or l 0 0

-- The greatest code.
abbrev most : Width ℕ → ℕ
most w = 256 ^ w.kind.code_bytes - 1

-- A sketch with the greatest code inserted, and one from which it was removed again and whose last code was kept.
abbrev large : Width ℕ → PowerSumQuack ℕ
large w = built w (sketch.insert w.kind (fresh 3) (most w))

abbrev kept : Width ℕ → PowerSumQuack ℕ
kept w = built w (record { threshold = 3; sums = replicate 3 0; count = 0; last = sketch.code (residue w.kind (most w)) })

-- The negated sketch with its last code kept.
abbrev remembered : Width ℕ → PowerSumQuack ℕ
remembered w =
    let g = sketch.negate w.kind (sketch.insert w.kind (fresh 3) 10) in
    built w (record { threshold = 3; sums = g.sums; count = g.count; last = sketch.code 10 })

module _ (p : Passed u16) (q : Passed u32) where
  module _ (κs : Lfts 1) where
    -- ---- made and looked at

    -- A threshold above the greatest is made, or refused by 2.
    pub new_wrong : AtBoth (passing word16 p new.Post) (passing word32 q new.Post)
        (λ post w. RefusesBoth (Holds (post κs) (w.kind.greatest + 1, tt)) (Ok (built w (fresh (w.kind.greatest + 1)))) (Err ThresholdsDiffer))
    unfolding new_of calls.make fresh
    new_wrong = (both_differ refusal _ _ refl refl, both_differ refusal _ _ refl refl)

    -- No sketch is one of threshold 1, or has a count.
    pub blank_wrong : AtBoth (passing word16 p blank.Post) (passing word32 q blank.Post)
        (λ post w. RefusesBoth (Holds (post κs) tt) (built w (fresh 1)) (built w (record no_sketch { count = 1 })))
    unfolding fresh
    blank_wrong = (both_differ threshold_and_count _ _ refl refl, both_differ threshold_and_count _ _ refl refl)

    -- The places, or the count, for the threshold.
    pub threshold_wrong : AtBoth (passing word16 p threshold.Post) (passing word32 q threshold.Post)
        (λ post w. RefusesBoth (Holds (post κs) (both w, tt)) w.kind.greatest 2)
    unfolding fresh sketch.insert
    threshold_wrong = (both_differ itself _ _ refl refl, both_differ itself _ _ refl refl)

    -- Nothing, or the threshold, for the count.
    pub count_wrong : AtBoth (passing word16 p count.Post) (passing word32 q count.Post) (λ post w. RefusesBoth (Holds (post κs) (both w, tt)) 0 3)
    unfolding fresh sketch.insert
    count_wrong = (both_differ itself _ _ refl refl, both_differ itself _ _ refl refl)

    -- None, or the code before the last, for the last code.
    pub last_value_wrong : AtBoth (passing word16 p last_value.Post) (passing word32 q last_value.Post)
        (λ post w. RefusesBoth (Holds (post κs) (both w, tt)) None (Some (wrap w 10)))
    unfolding fresh sketch.insert
    last_value_wrong = (both_differ last_number _ _ refl refl, both_differ last_number _ _ refl refl)

    -- A well-formed sketch is said to be none, and one of threshold 0 to be one.
    pub well_formed_wrong : AtBoth (passing word16 p well_formed_call.Post) (passing word32 q well_formed_call.Post)
        (λ post w. (Holds (post κs) (both w, tt) false → ⊥) × (Holds (post κs) (built w no_sketch, tt) true → ⊥))
    unfolding fresh each every well_formed sketch.insert
    well_formed_wrong =
        ((differs yes_or_no false refl, differs yes_or_no true refl), (differs yes_or_no false refl, differs yes_or_no true refl))

    -- ---- changed

    -- Another code is inserted, or the code twice.
    pub insert_wrong : AtBoth (passing word16 p insert.Post) (passing word32 q insert.Post)
        (λ post w. RefusesBoth (Holds (post κs) (none w, (code 10, tt))) (Ok (built w (sketch.insert w.kind (fresh 3) 12))) (Ok (both w)))
    unfolding fresh each every well_formed sketch.insert insert_of calls.insert
    insert_wrong = (both_differ first_sum _ _ refl refl, both_differ first_sum _ _ refl refl)

    -- Nothing is removed, or the other code.
    pub remove_wrong : AtBoth (passing word16 p remove.Post) (passing word32 q remove.Post)
        (λ post w. RefusesBoth (Holds (post κs) (both w, (code 10, tt))) (Ok (both w)) (Ok (built w (sketch.insert w.kind (fresh 3) 10))))
    unfolding fresh each every well_formed sketch.insert sketch.remove remove_of calls.remove
    remove_wrong = (both_differ first_sum _ _ refl refl, both_differ first_sum _ _ refl refl)

    -- A sketch of one's own stays as it was, or gets another code too.
    pub insert_once_wrong : AtBoth (passing word16 p insert_once.Post) (passing word32 q insert_once.Post)
        (λ post w. RefusesBoth (Holds (post κs) (none w, (code 10, tt))) (Ok (none w)) (Ok (both w)))
    unfolding fresh each every well_formed sketch.insert insert_of calls.insert
    insert_once_wrong = (both_differ count_of _ _ refl refl, both_differ count_of _ _ refl refl)

    -- Nothing is removed from a sketch of one's own, or both codes are.
    pub remove_once_wrong : AtBoth (passing word16 p remove_once.Post) (passing word32 q remove_once.Post)
        (λ post w. RefusesBoth (Holds (post κs) (both w, (code 10, tt))) (Ok (both w)) (Ok (none w)))
    unfolding fresh each every well_formed sketch.insert sketch.remove remove_of calls.remove
    remove_once_wrong = (both_differ count_of _ _ refl refl, both_differ count_of _ _ refl refl)

    -- The last code stays where the code of which it is the residue is removed by value.
    pub last_code_kept_by_value_wrong : AtBoth (passing word16 p remove.Post) (passing word32 q remove.Post)
        (λ post w. Holds (post κs) (large w, (code (most w), tt)) (Ok (kept w)) → ⊥)
    unfolding fresh each every well_formed sketch.insert sketch.remove remove_of calls.remove
    last_code_kept_by_value_wrong = (differs last_of (Ok (kept width16)) refl, differs last_of (Ok (kept width32)) refl)

    -- It stays where that code is removed from a sketch of one's own.
    pub last_code_kept_once_wrong : AtBoth (passing word16 p remove_once.Post) (passing word32 q remove_once.Post)
        (λ post w. Holds (post κs) (large w, (code (most w), tt)) (Ok (kept w)) → ⊥)
    unfolding fresh each every well_formed sketch.insert sketch.remove remove_of calls.remove
    last_code_kept_once_wrong = (differs last_of (Ok (kept width16)) refl, differs last_of (Ok (kept width32)) refl)

    -- Thresholds that differ are not refused, or refused by 3.
    pub sub_assign_wrong : AtBoth (passing word16 p sub_assign.Post) (passing word32 q sub_assign.Post)
        (λ post w. RefusesBoth (Holds (post κs) (both w, (built w (fresh 2), tt))) (Ok (both w)) (Err NoLastCode))
    unfolding fresh each every well_formed sketch.insert sketch.subtract sub_assign_of calls.sub_assign
    sub_assign_wrong = (both_differ refusal _ _ refl refl, both_differ refusal _ _ refl refl)

    -- The greater threshold is kept, or the places.
    pub sub_wrong : AtBoth (passing word16 p sub.Post) (passing word32 q sub.Post)
        (λ post w. RefusesBoth (Holds (post κs) (both w, (built w (fresh 2), tt))) (Ok (both w)) (Ok (built w (fresh w.kind.greatest))))
    unfolding fresh each every well_formed sketch.insert sketch.subtract sub_of calls.sub
    sub_wrong = (both_differ threshold_of _ _ refl refl, both_differ threshold_of _ _ refl refl)

    -- Two below nothing are taken as they are counted, or as one below nothing.
    pub signed_count_wrong : AtBoth (passing word16 p signed_count.Post) (passing word32 q signed_count.Post)
        (λ post w. RefusesBoth (Holds (post κs) (gone w, tt)) (pos (counts - 2)) (negsuc 0))
    unfolding fresh sketch.remove signed_count
    signed_count_wrong = (both_differ below_zero _ _ refl refl, both_differ below_zero _ _ refl refl)

    -- The sketch stays as it was, or its last code stays.
    pub negate_wrong : AtBoth (passing word16 p negate.Post) (passing word32 q negate.Post)
        (λ post w. let one = built w (sketch.insert w.kind (fresh 3) 10) in RefusesBoth (Holds (post κs) (one, tt)) (Ok one) (Ok (remembered w)))
    unfolding fresh each every well_formed sketch.insert sketch.negate negate_of calls.negate
    negate_wrong = (both_differ last_of _ _ refl refl, both_differ last_of _ _ refl refl)

  module _ (κs : Lfts 2) where
    -- ---- in place

    -- In place, the sketch stays as it was, or the call is refused.
    pub insert_in_place_wrong : AtBoth (passing word16 p insert_in_place.Post) (passing word32 q insert_in_place.Post)
        (λ post w. (post κs (lent_mut (none w), (code 10, tt)) (Ok tt) (lent_mut (none w), (code 10, tt)) → ⊥)
        × (post κs (lent_mut (none w), (code 10, tt)) (Err NotWellFormed) (lent_mut (none w), (code 10, tt)) → ⊥))
    unfolding fresh each every well_formed sketch.insert insert_of calls.insert
    insert_in_place_wrong = (
      (λ h. differs counted (none width16) refl h.1, λ h. differs refusal_or_none (Err NotWellFormed) refl h.0),
      (λ h. differs counted (none width32) refl h.1, λ h. differs refusal_or_none (Err NotWellFormed) refl h.0),
    )

    -- A removal in place leaves the sketch as it was, or is refused.
    pub remove_in_place_wrong : AtBoth (passing word16 p remove_in_place.Post) (passing word32 q remove_in_place.Post)
        (λ post w. (post κs (lent_mut (both w), (code 10, tt)) (Ok tt) (lent_mut (both w), (code 10, tt)) → ⊥)
        × (post κs (lent_mut (both w), (code 10, tt)) (Err NotWellFormed) (lent_mut (both w), (code 10, tt)) → ⊥))
    unfolding fresh each every well_formed sketch.insert sketch.remove remove_of calls.remove
    remove_in_place_wrong = (
      (λ h. differs counted (both width16) refl h.1, λ h. differs refusal_or_none (Err NotWellFormed) refl h.0),
      (λ h. differs counted (both width32) refl h.1, λ h. differs refusal_or_none (Err NotWellFormed) refl h.0),
    )

    -- The last code stays where the code of which it is the residue is removed in place.
    pub last_code_kept_in_place_wrong : AtBoth (passing word16 p remove_in_place.Post) (passing word32 q remove_in_place.Post)
        (λ post w. post κs (lent_mut (large w), (code (most w), tt)) (Ok tt) (lent_mut (kept w), (code (most w), tt)) → ⊥)
    unfolding fresh each every well_formed sketch.insert sketch.remove remove_of calls.remove
    last_code_kept_in_place_wrong = (
      λ h. differs (λ (s : PowerSumQuack ℕ). last_number s.last) (kept width16) refl h.1,
      λ h. differs (λ (s : PowerSumQuack ℕ). last_number s.last) (kept width32) refl h.1,
    )

    -- The last code stays where the code of which it is the residue is removed: by value, in place, or on a sketch of one's own.
    pub last_code_kept_wrong : (κ : Lfts 1)
        → AtBoth (passing word16 p remove.Post) (passing word32 q remove.Post) (λ post w. Holds (post κ) (large w, (code (most w), tt)) (Ok (kept w)) → ⊥)
        × AtBoth (passing word16 p remove_in_place.Post) (passing word32 q remove_in_place.Post)
        (λ post w. post κs (lent_mut (large w), (code (most w), tt)) (Ok tt) (lent_mut (kept w), (code (most w), tt)) → ⊥)
        × AtBoth (passing word16 p remove_once.Post) (passing word32 q remove_once.Post)
        (λ post w. Holds (post κ) (large w, (code (most w), tt)) (Ok (kept w)) → ⊥)
    last_code_kept_wrong κ = (last_code_kept_by_value_wrong κ, last_code_kept_in_place_wrong, last_code_kept_once_wrong κ)

    -- A sketch that is refused in place is changed: one of threshold 0 gets a threshold.
    pub refused_in_place_wrong : AtBoth (passing word16 p insert_in_place.Post) (passing word32 q insert_in_place.Post)
        (λ post w. post κs (lent_mut (built w no_sketch), (code 10, tt)) (Err NotWellFormed) (lent_mut (none w), (code 10, tt)) → ⊥)
    unfolding fresh each every well_formed insert_of calls.insert
    refused_in_place_wrong = (
      λ h. differs (λ (s : PowerSumQuack ℕ). s.threshold) (none width16) refl h.1,
      λ h. differs (λ (s : PowerSumQuack ℕ). s.threshold) (none width32) refl h.1,
    )

    -- ---- lists

    -- One coefficient is counted, or they stand the other way round.
    pub to_coeffs_wrong : AtBoth (passing word16 p to_coeffs.Post) (passing word32 q to_coeffs.Post)
        (λ post w. RefusesEither (λ r buf₁. post κs (both w, (lent_mut (0 ∷ 0 ∷ []), tt)) r (both w, (buf₁, tt))) (Ok 1) (120 ∷ (w.kind.modulus - 22) ∷ []))
    unfolding fresh each every well_formed sketch.insert coefficients_of calls.coefficients decoding.coefficients decoding.newest_first power_mod power_within
    to_coeffs_wrong = (either_differs many first _ _ refl refl, either_differs many first _ _ refl refl)

    -- ---- packets

    -- One byte too few is counted, or the count's highest byte comes first.
    pub serialize_wrong : AtBoth (passing word16 p serialize.Post) (passing word32 q serialize.Post)
        (λ post w. let long = packet_length w.kind 3 in
        RefusesEither (λ r buf₁. post κs (both w, (lent_mut (replicate long 0), tt)) r (both w, (buf₁, tt))) (Ok (long - 1))
        (0 ∷ 0 ∷ 0 ∷ 2 ∷ replicate (long - 4) 0))
    unfolding fresh each every well_formed sketch.insert write_of calls.write packet bytes all_bytes
    serialize_wrong = (either_differs many first _ _ refl refl, either_differs many first _ _ refl refl)

    -- Every sum is written in spite of the hint, or the hint is the count.
    pub serialize_with_hint_wrong : AtBoth (passing word16 p serialize_with_hint.Post) (passing word32 q serialize_with_hint.Post)
        (λ post w. let long = packet_length w.kind 3 in
        RefusesEither (λ r buf₁. post κs (both w, (lent_mut (replicate long 0), (1, tt))) r (both w, (buf₁, (1, tt)))) (Ok long) (1 ∷ replicate (long - 1) 0))
    unfolding fresh each every well_formed sketch.insert write_with_hint_of calls.write_with_hint packet bytes all_bytes
    serialize_with_hint_wrong = (either_differs many first _ _ refl refl, either_differs many first _ _ refl refl)

    -- Of a count of 2 and one sum, the count is forgotten, or 1.
    pub deserialize_wrong : (buf₁ : Bor (List ℕ)) → AtBoth (passing word16 p deserialize.Post) (passing word32 q deserialize.Post)
        (λ post w. RefusesBoth (λ r. post κs (lent (2 ∷ replicate (packet_length w.kind 1 - 1) 0), tt) r (buf₁, tt)) (Ok (built w (fresh 1)))
        (Ok (built w (sketch.insert w.kind (fresh 1) 0))))
    unfolding fresh each sketch.insert read_of calls.read every number all_numbers sketch_in
    deserialize_wrong buf₁ = (both_differ count_of _ _ refl refl, both_differ count_of _ _ refl refl)

  module _ (κs : Lfts 3) (log₁ : Bor (List ℕ)) where
    -- Both entries are counted, or the other one is listed.
    pub decode_with_log_wrong : AtBoth (passing word16 p decode_with_log.Post) (passing word32 q decode_with_log.Post)
        (λ post w. RefusesEither (λ r out₁. post κs (both w, (lent (1 ∷ 10 ∷ []), (lent_mut (0 ∷ 0 ∷ []), tt))) r (both w, (log₁, (out₁, tt)))) (Ok 2)
        (1 ∷ 0 ∷ []))
    unfolding fresh each every well_formed sketch.insert decode_of calls.decode decoding.decode decoding.coefficients decoding.evaluate decoding.newest_first
        power_mod power_within
    decode_with_log_wrong = (either_differs many first _ _ refl refl, either_differs many first _ _ refl refl)

    -- Both codes are counted, or the other one is listed.
    pub decode_surplus_with_log_wrong : AtBoth (passing word16 p decode_surplus_with_log.Post) (passing word32 q decode_surplus_with_log.Post)
        (λ post w. RefusesEither (λ r out₁. post κs (gone w, (lent (1 ∷ 10 ∷ []), (lent_mut (0 ∷ 0 ∷ []), tt))) r (gone w, (log₁, (out₁, tt)))) (Ok 2)
        (1 ∷ 0 ∷ []))
    unfolding fresh each every well_formed sketch.remove sketch.negate signed_count decode_surplus_of calls.decode_surplus decoding.surplus decoding.decode
        decoding.coefficients decoding.evaluate decoding.newest_first power_mod power_within
    decode_surplus_with_log_wrong = (either_differs many first _ _ refl refl, either_differs many first _ _ refl refl)

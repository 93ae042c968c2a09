-- Idle programs: no contract here is met by refusing everything, by an insertion that does nothing or works only for the first code, or by a fixed list,
-- shown at both widths by an input at which the rule's answer differs.
-- Assumes nothing.
use Rattle.std.proofs.Common.{◌≡◌, ℕ, cond, eqb, List, [], ◌∷◌, map, get_or, replicate, sym, refl, ◌∙◌, Bor, MutBor}
use Rattle.std.specs.Prelude.{Result, Ok, Err}
use denote.Builtin.{u16, u32}
use contract.Lifetimes.{Lfts}
use Rattle.numbers.specs.Power.{power_mod, power_within}
use Rattle.numbers.specs.Table.{every}
use Rattle.modint.specs.declared.Code.{Code}
use Rattle.modint.specs.Width.{Width, width16, width32}
use Rattle.modint.proofs.Blocks.{word16, word32, Passed, passing}
use Rattle.rules.specs.Signed.{signed_count}
use Rattle.rules.specs.Sketch as sketch
use Rattle.rules.specs.Sketch.{fresh, each, well_formed}
use Rattle.rules.specs.Packet.{bytes, number, all_bytes, all_numbers, packet, packet_length}
use Rattle.rules.specs.Decode as decoding
use Rattle.rules.specs.Calls as calls
use Rattle.rules.specs.Determines.{Holds, MustAnswer}
use Rattle.rules.proofs.Determined.{lent, lent_mut, differs, must_answer}
use Rattle.lent.specs.declared.refusal.Refusal.{Refusal}
use Rattle.lent.specs.Refusals.{refusal_or_none}
use Rattle.power_sum.specs.declared.power_sum.PowerSumQuack.{PowerSumQuack}
use Rattle.power_sum.specs.Answers.{built, new_of, insert_of, remove_of, sub_assign_of, sub_of, coefficients_of, decode_of}
use Rattle.power_sum.specs.Answers.{negate_of, decode_surplus_of, write_of, write_with_hint_of, read_of}
use Rattle.power_sum.proofs.power_sum.PowerSumQuack.new.Reads as new
use Rattle.power_sum.proofs.power_sum.PowerSumQuack.insert.Reads as insert
use Rattle.power_sum.proofs.power_sum.PowerSumQuack.remove.Reads as remove
use Rattle.power_sum.proofs.power_sum.PowerSumQuack.sub_assign.Reads as sub_assign
use Rattle.power_sum.proofs.power_sum.PowerSumQuack.sub.Reads as sub
use Rattle.power_sum.proofs.power_sum.PowerSumQuack.negate.Reads as negate
use Rattle.power_sum.proofs.power_sum.PowerSumQuack.to_coeffs.Reads as to_coeffs
use Rattle.power_sum.proofs.power_sum.PowerSumQuack.decode_with_log.Reads as decode_with_log
use Rattle.power_sum.proofs.power_sum.PowerSumQuack.decode_surplus_with_log.Reads as decode_surplus_with_log
use Rattle.power_sum.proofs.power_sum.PowerSumQuack.serialize.Reads as serialize
use Rattle.power_sum.proofs.power_sum.PowerSumQuack.serialize_with_hint.Reads as serialize_with_hint
use Rattle.power_sum.proofs.power_sum.PowerSumQuack.deserialize.Reads as deserialize

-- A fact of a contract at both widths: of what it promises at each, and of the width.
abbrev pub AtBoth : {Post : Type 1} → Post → Post → (Post → Width ℕ → Type 0) → Type 0
AtBoth narrow wide fact = fact narrow width16 × fact wide width32

-- The code of a number.
abbrev pub code : ℕ → Code ℕ
code n = record { 0 = n }

-- A sketch of threshold 3, fresh and with the codes 10 and 12 in it.
abbrev pub none : Width ℕ → PowerSumQuack ℕ
none w = built w (fresh 3)

-- The sketch of threshold 3 with the codes 10 and 12 in it.
abbrev pub both : Width ℕ → PowerSumQuack ℕ
both w = built w (sketch.insert w.kind (sketch.insert w.kind (fresh 3) 10) 12)

-- The sketch of threshold 3 with the codes 10 and 12 taken out of it.
abbrev pub gone : Width ℕ → PowerSumQuack ℕ
gone w = built w (sketch.remove w.kind (sketch.remove w.kind (fresh 3) 10) 12)

-- What is read off an answer: the number of its refusal, 0 for none, and its first sum, 0 for a refusal.
abbrev pub refusal : Result (PowerSumQuack ℕ) Refusal → ℕ
refusal = refusal_or_none

-- The first sum of an answer's sketch.
abbrev pub first_sum : Result (PowerSumQuack ℕ) Refusal → ℕ
first_sum (Ok s) = get_or (map (λ r. r.0) s.sums) 0 0
first_sum (Err e) = 0

-- The refusal of a call that writes a list.
abbrev pub refused : Result ℕ Refusal → ℕ
refused = refusal_or_none

module _ (p : Passed u16) (q : Passed u32) where
  -- ---- refusing everything

  module _ (κs : Lfts 1) where
    -- Making a sketch of threshold 3 is not refused.
    pub new_must_answer : AtBoth (passing word16 p new.Post) (passing word32 q new.Post) (λ post w. MustAnswer refusal (Holds (post κs) (3, tt)))
    unfolding new_of calls.make fresh
    new_must_answer = (must_answer refusal refl, must_answer refusal refl)

    -- Insertion into a fresh sketch is not refused.
    pub insert_must_answer : AtBoth (passing word16 p insert.Post) (passing word32 q insert.Post)
        (λ post w. MustAnswer refusal (Holds (post κs) (none w, (code 10, tt))))
    unfolding fresh each every well_formed insert_of calls.insert sketch.insert
    insert_must_answer = (must_answer refusal refl, must_answer refusal refl)

    -- Removal from a fresh sketch is not refused.
    pub remove_must_answer : AtBoth (passing word16 p remove.Post) (passing word32 q remove.Post)
        (λ post w. MustAnswer refusal (Holds (post κs) (none w, (code 10, tt))))
    unfolding fresh each every well_formed remove_of calls.remove sketch.remove
    remove_must_answer = (must_answer refusal refl, must_answer refusal refl)

    -- Subtraction in place of a fresh sketch of the same threshold is not refused.
    pub sub_assign_must_answer : AtBoth (passing word16 p sub_assign.Post) (passing word32 q sub_assign.Post)
        (λ post w. MustAnswer refusal (Holds (post κs) (both w, (none w, tt))))
    unfolding sketch.insert fresh each every well_formed sub_assign_of calls.sub_assign sketch.subtract
    sub_assign_must_answer = (must_answer refusal refl, must_answer refusal refl)

    -- Subtraction of a fresh sketch of the same threshold is not refused.
    pub sub_must_answer : AtBoth (passing word16 p sub.Post) (passing word32 q sub.Post)
        (λ post w. MustAnswer refusal (Holds (post κs) (both w, (none w, tt))))
    unfolding sketch.insert fresh each every well_formed sub_of calls.sub sketch.subtract
    sub_must_answer = (must_answer refusal refl, must_answer refusal refl)

    -- Negation is not refused.
    pub negate_must_answer : AtBoth (passing word16 p negate.Post) (passing word32 q negate.Post)
        (λ post w. MustAnswer refusal (Holds (post κs) (both w, tt)))
    unfolding sketch.insert fresh each every well_formed negate_of calls.negate sketch.negate
    negate_must_answer = (must_answer refusal refl, must_answer refusal refl)

  module _ (κs : Lfts 2) where
    -- Coefficients, into two places.
    pub to_coeffs_must_answer : (buf₁ : MutBor (List ℕ)) → AtBoth (passing word16 p to_coeffs.Post) (passing word32 q to_coeffs.Post)
        (λ post w. MustAnswer refused (λ r. post κs (both w, (lent_mut (0 ∷ 0 ∷ []), tt)) r (both w, (buf₁, tt))))
    unfolding sketch.insert fresh each every well_formed coefficients_of calls.coefficients
    to_coeffs_must_answer buf₁ = (λ a t h. must_answer refused refl a t h.0, λ a t h. must_answer refused refl a t h.0)

    -- Writing, into 20 bytes.
    pub serialize_must_answer : (buf₁ : MutBor (List ℕ)) → AtBoth (passing word16 p serialize.Post) (passing word32 q serialize.Post)
        (λ post w. MustAnswer refused (λ r. post κs (both w, (lent_mut (replicate 20 0), tt)) r (both w, (buf₁, tt))))
    unfolding sketch.insert fresh each every well_formed write_of calls.write packet bytes all_bytes
    serialize_must_answer buf₁ = (λ a t h. must_answer refused refl a t h.0, λ a t h. must_answer refused refl a t h.0)

    -- Writing with the hint 2 into 20 bytes is not refused.
    pub serialize_with_hint_must_answer : (buf₁ : MutBor (List ℕ))
        → AtBoth (passing word16 p serialize_with_hint.Post) (passing word32 q serialize_with_hint.Post)
        (λ post w. MustAnswer refused (λ r. post κs (both w, (lent_mut (replicate 20 0), (2, tt))) r (both w, (buf₁, (2, tt)))))
    unfolding sketch.insert fresh each every well_formed write_with_hint_of calls.write_with_hint packet bytes all_bytes
    serialize_with_hint_must_answer buf₁ = (λ a t h. must_answer refused refl a t h.0, λ a t h. must_answer refused refl a t h.0)

    -- Reading, of as many bytes 0 as a packet of one sum has.
    pub deserialize_must_answer : (buf₁ : Bor (List ℕ)) → AtBoth (passing word16 p deserialize.Post) (passing word32 q deserialize.Post)
        (λ post w. MustAnswer refusal (λ r. post κs (lent (replicate (packet_length w.kind 1) 0), tt) r (buf₁, tt)))
    unfolding read_of calls.read every number all_numbers
    deserialize_must_answer buf₁ = (must_answer refusal refl, must_answer refusal refl)

  -- ---- an insertion that does nothing, and one that works only for the first code

  module _ (κs : Lfts 1) where
    -- An insertion that hands back the sketch as it was is not allowed.
    pub nothing_inserted_falls : AtBoth (passing word16 p insert.Post) (passing word32 q insert.Post)
        (λ post w. let f : PowerSumQuack ℕ → Code ℕ → Result (PowerSumQuack ℕ) Refusal = λ s c. Ok s in
        Holds (post κs) (none w, (code 10, tt)) (f (none w) (code 10)) → ⊥)
    unfolding fresh each every well_formed insert_of calls.insert sketch.insert
    nothing_inserted_falls = (differs first_sum (Ok (none width16)) refl, differs first_sum (Ok (none width32)) refl)

    -- A sketch of one code, to which an insertion that works only where the count is 0 does nothing.
    abbrev one : Width ℕ → PowerSumQuack ℕ
    one w = built w (sketch.insert w.kind (fresh 3) 12)

    -- Nor is one that inserts only where the count is 0.
    pub first_only_falls : AtBoth (passing word16 p insert.Post) (passing word32 q insert.Post)
        (λ post w. let f : PowerSumQuack ℕ → Code ℕ → Result (PowerSumQuack ℕ) Refusal = λ s c. cond (eqb s.count 0) (insert_of w s c) (Ok s) in
        Holds (post κs) (one w, (code 10, tt)) (f (one w) (code 10)) → ⊥)
    unfolding fresh each every well_formed insert_of calls.insert sketch.insert
    first_only_falls = (differs first_sum (Ok (one width16)) refl, differs first_sum (Ok (one width32)) refl)

  module _ (κs : Lfts 3) (log₁ : Bor (List ℕ)) where
    -- ---- decoding, of the log 1, 10 into a buffer of two places

    -- Decoding is not refused.
    pub decode_must_answer : (out₁ : MutBor (List ℕ)) → AtBoth (passing word16 p decode_with_log.Post) (passing word32 q decode_with_log.Post)
        (λ post w. MustAnswer refused (λ r. post κs (both w, (lent (1 ∷ 10 ∷ []), (lent_mut (0 ∷ 0 ∷ []), tt))) r (both w, (log₁, (out₁, tt)))))
    unfolding sketch.insert fresh each every well_formed decode_of calls.decode
    decode_must_answer out₁ = (λ a t h. must_answer refused refl a t h.0, λ a t h. must_answer refused refl a t h.0)

    -- The empty list leaves the buffer as it was, and the whole log fills it.
    pub fixed_list_falls : (r : Result ℕ Refusal) (out₁ : MutBor (List ℕ)) → AtBoth (passing word16 p decode_with_log.Post) (passing word32 q decode_with_log.Post)
        (λ post w. post κs (both w, (lent (1 ∷ 10 ∷ []), (lent_mut (0 ∷ 0 ∷ []), tt))) r (both w, (log₁, (out₁, tt)))
        → (out₁.now ≡ 0 ∷ 0 ∷ [] → ⊥) × (out₁.now ≡ 1 ∷ 10 ∷ [] → ⊥))
    unfolding sketch.insert fresh each every well_formed decode_of calls.decode decoding.decode decoding.coefficients decoding.evaluate decoding.newest_first
        power_mod power_within
    fixed_list_falls r out₁ =
        let first = λ (l : List ℕ). get_or l 0 0 in (
          λ h. (λ e. differs first (0 ∷ 0 ∷ []) refl (sym e ∙ h.1), λ e. differs first (1 ∷ 10 ∷ []) refl (sym e ∙ h.1)),
          λ h. (λ e. differs first (0 ∷ 0 ∷ []) refl (sym e ∙ h.1), λ e. differs first (1 ∷ 10 ∷ []) refl (sym e ∙ h.1)),
        )

    -- ---- decoding the surplus, among the got codes 1, 10 into a buffer of two places

    -- It is not refused, with a count below zero or above.
    pub surplus_must_answer : (out₁ : MutBor (List ℕ))
        → AtBoth (passing word16 p decode_surplus_with_log.Post) (passing word32 q decode_surplus_with_log.Post)
        (λ post w. let Surplus : PowerSumQuack ℕ → Result ℕ Refusal → Type 0 =
        λ s r. post κs (s, (lent (1 ∷ 10 ∷ []), (lent_mut (0 ∷ 0 ∷ []), tt))) r (s, (log₁, (out₁, tt))) in
        MustAnswer refused (Surplus (gone w)) × MustAnswer refused (Surplus (both w)))
    unfolding sketch.insert sketch.remove fresh each every well_formed signed_count decode_surplus_of calls.decode_surplus
    surplus_must_answer out₁ = (
      (λ a t h. must_answer refused refl a t h.0, λ a t h. must_answer refused refl a t h.0),
      (λ a t h. must_answer refused refl a t h.0, λ a t h. must_answer refused refl a t h.0),
    )

    -- The empty list leaves the buffer as it was, and all got codes fill it.
    pub fixed_surplus_falls : (r : Result ℕ Refusal) (out₁ : MutBor (List ℕ))
        → AtBoth (passing word16 p decode_surplus_with_log.Post) (passing word32 q decode_surplus_with_log.Post)
        (λ post w. post κs (gone w, (lent (1 ∷ 10 ∷ []), (lent_mut (0 ∷ 0 ∷ []), tt))) r (gone w, (log₁, (out₁, tt)))
        → (out₁.now ≡ 0 ∷ 0 ∷ [] → ⊥) × (out₁.now ≡ 1 ∷ 10 ∷ [] → ⊥))
    unfolding sketch.remove sketch.negate fresh each every well_formed signed_count decode_surplus_of calls.decode_surplus decoding.surplus decoding.decode
        decoding.coefficients decoding.evaluate decoding.newest_first power_mod power_within
    fixed_surplus_falls r out₁ =
        let first = λ (l : List ℕ). get_or l 0 0 in (
          λ h. (λ e. differs first (0 ∷ 0 ∷ []) refl (sym e ∙ h.1), λ e. differs first (1 ∷ 10 ∷ []) refl (sym e ∙ h.1)),
          λ h. (λ e. differs first (0 ∷ 0 ∷ []) refl (sym e ∙ h.1), λ e. differs first (1 ∷ 10 ∷ []) refl (sym e ∙ h.1)),
        )

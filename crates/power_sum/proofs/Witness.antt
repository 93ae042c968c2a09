-- The promise for the calls that run, applied at its limit and at both widths: a history with a removal before its insertion, both subtractions and a
-- packet with a hint, whose sketch keeps two sums and lacks exactly two codes. So its premises can be met, and one that asked for more would not be met here.
-- Assumes nothing.
use Rattle.std.proofs.Common.{◌≡◌, ℕ, ◌-◌, ◌^◌, List, [], ◌∷◌, ◌++◌, replicate, ℤ, negsuc, refl, inl, inr, arith, lit≤, Bor, MutBor}
use Rattle.std.specs.Prelude.{Result, Ok}
use denote.Builtin.{u16, u32}
use contract.Lifetimes.{Lfts}
use Rattle.numbers.specs.Table.{every}
use Rattle.newton.specs.Members.{AllBelow}
use Rattle.modint.specs.Width.{Width, width16, width32}
use Rattle.modint.proofs.Blocks.{word16, word32, Passed, passed16, passed32, passing}
use Rattle.rules.specs.Field.{residue}
use Rattle.rules.specs.Sketch.{Sketch, fresh, insert, remove, subtract, cut, each, well_formed}
use Rattle.rules.specs.Packet.{bytes, number, all_bytes, all_numbers, packet, sketch_in}
use Rattle.rules.specs.Calls as calls
use Rattle.rules.specs.History as history
use Rattle.rules.specs.History.{History, net, excess}
use Rattle.rules.specs.Run.{Ran, made, inserted, removed, subtracted_in_place, subtracted, carried_by_hint, LeftIn, ExceedsIn}
use Rattle.rules.proofs.Each.{every_below}
use Rattle.rules.proofs.Determined.{lent, lent_mut}
use Rattle.lent.specs.declared.refusal.Refusal.{Refusal}
use Rattle.power_sum.specs.declared.power_sum.PowerSumQuack.{PowerSumQuack}
use Rattle.power_sum.specs.Answers.{built, new_of, insert_of, remove_of, sub_assign_of, sub_of, write_with_hint_of, read_of}
use Rattle.power_sum.proofs.Idle.{AtBoth, code}
use Rattle.power_sum.proofs.Promise.{the_calls, decode_exact, same_net, signed_exact, surplus_exact, same_excess, Wrote, Read, read_and_written}
use Rattle.power_sum.proofs.power_sum.PowerSumQuack.decode_with_log.Reads as decode_with_log
use Rattle.power_sum.proofs.power_sum.PowerSumQuack.signed_count.Reads as signed_count
use Rattle.power_sum.proofs.power_sum.PowerSumQuack.decode_surplus_with_log.Reads as decode_surplus_with_log

-- A fact of each width.
abbrev AtEach : (Width ℕ → Type 0) → Type 0
AtEach fact = fact width16 × fact width32

-- The sketch of threshold 3 from which 5 is removed before it is inserted, and into which 7, 11 and 13 are.
abbrev pub put : Width ℕ → Sketch
put w = insert w.kind (insert w.kind (insert w.kind (insert w.kind (remove w.kind (fresh 3) 5) 5) 7) 11) 13

-- It less that of 13, with 9 put in.
abbrev pub less : Width ℕ → Sketch
less w = insert w.kind (subtract w.kind (put w) (insert w.kind (fresh 3) 13)) 9

-- It carried with two sums, less the sketch of 11: 7 and 9 are left.
abbrev pub left : Width ℕ → Sketch
left w = subtract w.kind (cut (less w) 2) (insert w.kind (fresh 3) 11)

-- The history of these calls.
abbrev pub calls_made : History
calls_made =
    history.sub
    (history.carried
    (history.insert
    (history.sub_assign
    (history.insert (history.insert (history.insert (history.insert (history.remove (history.fresh 3) 5) 5) 7) 11) 13)
    (history.insert (history.fresh 3) 13)) 9) 2)
    (history.insert (history.fresh 3) 11)

-- The bytes of the packet with two sums.
abbrev pub sent : Width ℕ → List ℕ
sent w = packet w.kind (less w).count 9 (cut (less w) 2).sums

-- Two are left, and two sums are kept.
two_left : AtEach (λ w. LeftIn w.kind calls_made 2 2)
two_left = (record { none_below = λ r. omega arith; in_all = refl; enough = lit≤ tt }, record { none_below = λ r. omega arith; in_all = refl; enough = lit≤ tt })

-- A history of two insertions leaves the same two codes.
abbrev pub two_inserted : History
two_inserted = history.insert (history.insert (history.fresh 2) 7) 9

-- The sketch of threshold 2 with 5 put in, less that with 5, 7 and the prime put in: 7 and 0 are surplus.
abbrev pub over : Width ℕ → Sketch
over w = subtract w.kind (insert w.kind (fresh 2) 5) (insert w.kind (insert w.kind (insert w.kind (fresh 2) 5) 7) w.kind.modulus)

-- The history of these calls.
abbrev pub calls_over : Width ℕ → History
calls_over w =
    history.sub_assign (history.insert (history.fresh 2) 5)
    (history.insert (history.insert (history.insert (history.fresh 2) 5) 7) w.kind.modulus)

-- Two are surplus, and two sums are kept.
two_over : AtEach (λ w. ExceedsIn w.kind (calls_over w) 2 2)
two_over = (record { none_above = λ r. omega arith; in_all = refl; few = lit≤ tt }, record { none_above = λ r. omega arith; in_all = refl; few = lit≤ tt })

-- A history of two removals has the same surplus.
abbrev pub two_removed : History
two_removed = history.remove (history.remove (history.fresh 2) 7) 0

-- The greatest code.
abbrev most : Width ℕ → ℕ
most w = 256 ^ w.kind.code_bytes - 1

-- One sum and as many bytes more as are not another, and a last code that is to be reduced.
abbrev pub trailed : Width ℕ → List ℕ
trailed w = packet w.kind 1 (most w) (5 ∷ []) ++ replicate (w.kind.code_bytes - 1) 9

-- They are bytes.
trailed_bytes : AtEach (λ w. AllBelow 256 (trailed w))
unfolding every packet bytes all_bytes
trailed_bytes = (every_below 256 0 (trailed width16) refl, every_below 256 0 (trailed width32) refl)

-- The lifetime of what is lent for good.
abbrev forever : Lfts 1
forever = ([], tt)

-- Two of them.
abbrev for_two : Lfts 2
for_two = ([], forever)

module _ (p : Passed u16) (q : Passed u32) where
  -- ---- the calls of the histories run

  -- Those of the first history, the first insertion in place, at 16 bits.
  ran16 : Ran (the_calls word16 p) calls_made (built width16 (left width16))
  unfolding fresh insert remove subtract cut each every well_formed new_of insert_of remove_of sub_assign_of sub_of write_with_hint_of read_of calls.make
      calls.insert calls.remove calls.sub_assign calls.sub calls.write_with_hint calls.read packet bytes number all_bytes all_numbers sketch_in
  ran16 =
      subtracted
      (carried_by_hint 2 (sent width16)
      (inserted (code 9)
      (subtracted_in_place
      (inserted (code 13) (inserted (code 11) (inserted (code 7)
      (inserted (code 5) (removed (code 5) (made 3 (forever, refl)) (inl (forever, refl))) (inr (refl, refl))) (inl (forever, refl))) (inl (forever, refl)))
      (inl (forever, refl)))
      (inserted (code 13) (made 3 (forever, refl)) (inl (forever, refl))) (forever, refl)) (inl (forever, refl))) (lit≤ tt)
      (record { κs = for_two; buf = lent_mut (replicate 10 0); buf₁ = lent_mut (sent width16); n = 10; promised = (refl, refl); bytes = refl })
      (record { κs = for_two; packet = lent (sent width16); packet₁ = lent (sent width16); bytes = refl; promised = refl }))
      (inserted (code 11) (made 3 (forever, refl)) (inl (forever, refl))) (forever, refl)

  -- At 32 bits.
  ran32 : Ran (the_calls word32 q) calls_made (built width32 (left width32))
  unfolding fresh insert remove subtract cut each every well_formed new_of insert_of remove_of sub_assign_of sub_of write_with_hint_of read_of calls.make
      calls.insert calls.remove calls.sub_assign calls.sub calls.write_with_hint calls.read packet bytes number all_bytes all_numbers sketch_in
  ran32 =
      subtracted
      (carried_by_hint 2 (sent width32)
      (inserted (code 9)
      (subtracted_in_place
      (inserted (code 13) (inserted (code 11) (inserted (code 7)
      (inserted (code 5) (removed (code 5) (made 3 (forever, refl)) (inl (forever, refl))) (inr (refl, refl))) (inl (forever, refl))) (inl (forever, refl)))
      (inl (forever, refl)))
      (inserted (code 13) (made 3 (forever, refl)) (inl (forever, refl))) (forever, refl)) (inl (forever, refl))) (lit≤ tt)
      (record { κs = for_two; buf = lent_mut (replicate 16 0); buf₁ = lent_mut (sent width32); n = 16; promised = (refl, refl); bytes = refl })
      (record { κs = for_two; packet = lent (sent width32); packet₁ = lent (sent width32); bytes = refl; promised = refl }))
      (inserted (code 11) (made 3 (forever, refl)) (inl (forever, refl))) (forever, refl)

  -- Those of the two insertions.
  ran_two : Ran (the_calls word16 p) two_inserted (built width16 (insert width16.kind (insert width16.kind (fresh 2) 7) 9))
      × Ran (the_calls word32 q) two_inserted (built width32 (insert width32.kind (insert width32.kind (fresh 2) 7) 9))
  unfolding fresh insert each every well_formed new_of insert_of calls.make calls.insert
  ran_two = (
    inserted (code 9) (inserted (code 7) (made 2 (forever, refl)) (inl (forever, refl))) (inl (forever, refl)),
    inserted (code 9) (inserted (code 7) (made 2 (forever, refl)) (inl (forever, refl))) (inl (forever, refl)),
  )

  -- Those by which more came than was sent.
  ran_over : Ran (the_calls word16 p) (calls_over width16) (built width16 (over width16)) × Ran (the_calls word32 q) (calls_over width32) (built width32 (over width32))
  unfolding fresh insert subtract each every well_formed new_of insert_of sub_assign_of calls.make calls.insert calls.sub_assign
  ran_over = (
    subtracted_in_place (inserted (code 5) (made 2 (forever, refl)) (inl (forever, refl)))
        (inserted (code width16.kind.modulus) (inserted (code 7) (inserted (code 5) (made 2 (forever, refl)) (inl (forever, refl))) (inl (forever, refl))) (inl (forever, refl)))
        (forever, refl),
    subtracted_in_place (inserted (code 5) (made 2 (forever, refl)) (inl (forever, refl)))
        (inserted (code width32.kind.modulus) (inserted (code 7) (inserted (code 5) (made 2 (forever, refl)) (inl (forever, refl))) (inl (forever, refl))) (inl (forever, refl)))
        (forever, refl),
  )

  -- Those of the two removals.
  ran_removed : Ran (the_calls word16 p) two_removed (built width16 (remove width16.kind (remove width16.kind (fresh 2) 7) 0))
      × Ran (the_calls word32 q) two_removed (built width32 (remove width32.kind (remove width32.kind (fresh 2) 7) 0))
  unfolding fresh remove each every well_formed new_of remove_of calls.make calls.remove
  ran_removed = (
    removed (code 0) (removed (code 7) (made 2 (forever, refl)) (inl (forever, refl))) (inl (forever, refl)),
    removed (code 0) (removed (code 7) (made 2 (forever, refl)) (inl (forever, refl))) (inl (forever, refl)),
  )

  -- ---- what they promise, whatever they are passed

  -- Decoding lists exactly them, with a repeat, in the log's order.
  pub any_listed : (ls : Lfts 3) (log₁ : Bor (List ℕ)) (out₁ : MutBor (List ℕ)) (r : Result ℕ Refusal)
      → AtBoth (passing word16 p decode_with_log.Post) (passing word32 q decode_with_log.Post)
      (λ post w. post ls (built w (left w), (lent (5 ∷ 7 ∷ 9 ∷ 7 ∷ 11 ∷ 13 ∷ []), (lent_mut (replicate 6 0), tt))) r (built w (left w), (log₁, (out₁, tt)))
      → (r ≡ Ok 3) × (out₁.now ≡ 7 ∷ 9 ∷ 7 ∷ 0 ∷ 0 ∷ 0 ∷ []))
  unfolding fresh insert remove subtract cut
  any_listed ls log₁ out₁ r =
      let log = lent (5 ∷ 7 ∷ 9 ∷ 7 ∷ 11 ∷ 13 ∷ []) in
      let out = lent_mut (replicate 6 0) in (
        λ h. decode_exact word16 p ran16 two_left.0 ls log log₁ out out₁ r (lit≤ tt) h,
        λ h. decode_exact word32 q ran32 two_left.1 ls log log₁ out out₁ r (lit≤ tt) h,
      )

  -- The signed count is -2.
  pub any_signed : (κ : Lfts 1) (r : ℤ) → AtBoth (passing word16 p signed_count.Post) (passing word32 q signed_count.Post)
      (λ post w. post κ (built w (over w), tt) r (built w (over w), tt) → r ≡ negsuc 1)
  unfolding fresh insert subtract
  any_signed κ r = (λ h. signed_exact word16 p ran_over.0 two_over.0 κ r h, λ h. signed_exact word32 q ran_over.1 two_over.1 κ r h)

  -- Decoding the surplus lists exactly them, with a repeat and both codes of the residue 0, in the order of the got codes.
  pub any_surplus : (ls : Lfts 3) (got₁ : Bor (List ℕ)) (out₁ : MutBor (List ℕ)) (r : Result ℕ Refusal)
      → AtBoth (passing word16 p decode_surplus_with_log.Post) (passing word32 q decode_surplus_with_log.Post)
      (λ post w. post ls (built w (over w), (lent (5 ∷ 7 ∷ 0 ∷ 7 ∷ w.kind.modulus ∷ []), (lent_mut (replicate 5 9), tt))) r (built w (over w), (got₁, (out₁, tt)))
      → (r ≡ Ok 4) × (out₁.now ≡ 7 ∷ 0 ∷ 7 ∷ w.kind.modulus ∷ 9 ∷ []))
  unfolding fresh insert subtract
  any_surplus ls got₁ out₁ r =
      let out = lent_mut (replicate 5 9) in (
        λ h. surplus_exact word16 p ran_over.0 two_over.0 ls (lent (5 ∷ 7 ∷ 0 ∷ 7 ∷ width16.kind.modulus ∷ [])) got₁ out out₁ r (lit≤ tt) h,
        λ h. surplus_exact word32 q ran_over.1 two_over.1 ls (lent (5 ∷ 7 ∷ 0 ∷ 7 ∷ width32.kind.modulus ∷ [])) got₁ out out₁ r (lit≤ tt) h,
      )

  -- Read and written again, the bytes are those of the sum, with the last code reduced.
  pub any_written_again : {s : PowerSumQuack ℕ} {again : List ℕ}
      → (Read word16 p (trailed width16) s → Wrote word16 p s again → again ≡ packet width16.kind 1 (residue width16.kind (most width16)) (5 ∷ []))
      × (Read word32 q (trailed width32) s → Wrote word32 q s again → again ≡ packet width32.kind 1 (residue width32.kind (most width32)) (5 ∷ []))
  unfolding bytes number packet all_bytes
  any_written_again = (
    λ read wrote. read_and_written word16 p (trailed width16) trailed_bytes.0 read wrote,
    λ read wrote. read_and_written word32 q (trailed width32) trailed_bytes.1 read wrote,
  )

-- ---- what is left

-- Decoding lists exactly them, with a repeat, in the log's order.
pub limit_listed : (ls : Lfts 3) (log₁ : Bor (List ℕ)) (out₁ : MutBor (List ℕ)) (r : Result ℕ Refusal)
    → AtBoth (passing word16 passed16 decode_with_log.Post) (passing word32 passed32 decode_with_log.Post)
    (λ post w. post ls (built w (left w), (lent (5 ∷ 7 ∷ 9 ∷ 7 ∷ 11 ∷ 13 ∷ []), (lent_mut (replicate 6 0), tt))) r (built w (left w), (log₁, (out₁, tt)))
    → (r ≡ Ok 3) × (out₁.now ≡ 7 ∷ 9 ∷ 7 ∷ 0 ∷ 0 ∷ 0 ∷ []))
limit_listed = any_listed passed16 passed32

-- The sums determine what is left: both histories keep two sums, which are the same, so each residue has the same net number in both.
pub limit_same : AtEach (λ w. (r : ℕ) → net w.kind calls_made r ≡ net w.kind two_inserted r)
unfolding fresh insert remove subtract cut each
limit_same = (
  same_net word16 passed16 (ran16 passed16 passed32) two_left.0 (ran_two passed16 passed32).0 (record { none_below = λ r. omega arith; in_all = refl; enough = lit≤ tt }) refl,
  same_net word32 passed32 (ran32 passed16 passed32) two_left.1 (ran_two passed16 passed32).1 (record { none_below = λ r. omega arith; in_all = refl; enough = lit≤ tt }) refl,
)

-- ---- more came than was sent

-- The signed count is -2.
pub limit_signed : (κ : Lfts 1) (r : ℤ) → AtBoth (passing word16 passed16 signed_count.Post) (passing word32 passed32 signed_count.Post)
    (λ post w. post κ (built w (over w), tt) r (built w (over w), tt) → r ≡ negsuc 1)
limit_signed = any_signed passed16 passed32

-- Decoding the surplus lists exactly them, with a repeat and both codes of the residue 0, in the order of the got codes.
pub limit_surplus : (ls : Lfts 3) (got₁ : Bor (List ℕ)) (out₁ : MutBor (List ℕ)) (r : Result ℕ Refusal)
    → AtBoth (passing word16 passed16 decode_surplus_with_log.Post) (passing word32 passed32 decode_surplus_with_log.Post)
    (λ post w. post ls (built w (over w), (lent (5 ∷ 7 ∷ 0 ∷ 7 ∷ w.kind.modulus ∷ []), (lent_mut (replicate 5 9), tt))) r (built w (over w), (got₁, (out₁, tt)))
    → (r ≡ Ok 4) × (out₁.now ≡ 7 ∷ 0 ∷ 7 ∷ w.kind.modulus ∷ 9 ∷ []))
limit_surplus = any_surplus passed16 passed32

-- Both histories keep two sums, which are the same, so each residue has the same net number in both.
pub limit_same_excess : AtEach (λ w. (r : ℕ) → excess w.kind (calls_over w) r ≡ excess w.kind two_removed r)
unfolding fresh insert remove subtract each
limit_same_excess = (
  same_excess word16 passed16 (ran_over passed16 passed32).0 two_over.0 (ran_removed passed16 passed32).0 (record { none_above = λ r. omega arith; in_all = refl; few = lit≤ tt }) refl,
  same_excess word32 passed32 (ran_over passed16 passed32).1 two_over.1 (ran_removed passed16 passed32).1 (record { none_above = λ r. omega arith; in_all = refl; few = lit≤ tt }) refl,
)

-- ---- a packet

-- Read and written again, the bytes are those of the sum, with the last code reduced.
pub limit_written_again : {s : PowerSumQuack ℕ} {again : List ℕ}
    → (Read word16 passed16 (trailed width16) s → Wrote word16 passed16 s again → again ≡ packet width16.kind 1 (residue width16.kind (most width16)) (5 ∷ []))
    × (Read word32 passed32 (trailed width32) s → Wrote word32 passed32 s again → again ≡ packet width32.kind 1 (residue width32.kind (most width32)) (5 ∷ []))
limit_written_again = any_written_again passed16 passed32

-- The promise for the calls that run: along any history none of whose calls is refused, the list that `decode_with_log` leaves in the buffer that it was
-- lent is exact, and so, with the roles changed, is that of `decode_surplus_with_log`. What a call answers is whatever its contract allows. Over any width.
-- Assumes nothing.
use Rattle.std.proofs.Common.{◌≡◌, ℕ, ◌*◌, ◌≤◌, true, ◌⊎◌, List, ◌++◌, length, take, drop, ℤ, pos, neg_ℤ, sym, refl, ap, ◌∙◌, ⊎_elim, Bor, MutBor, arith}
use Rattle.std.specs.Prelude.{Result, Ok, Err}
use denote.RattleType.{RattleType}
use contract.Lifetimes.{Lfts}
use Rattle.modint.specs.declared.Code.{Code}
use Rattle.modint.proofs.Width.{nums_length}
use Rattle.modint.proofs.Blocks.{Word, Passed, passing}
use Rattle.newton.specs.Members.{AllBelow}
use Rattle.rules.specs.Kind.{count_bytes}
use Rattle.rules.specs.Field.{residue}
use Rattle.rules.specs.Sketch.{Sketch}
use Rattle.rules.specs.Packet.{bytes, number, sums_at, sums_in}
use Rattle.rules.specs.Calls.{Outcome, refused, given, refusal_of, length_of, written}
use Rattle.rules.specs.History.{History, net, excess}
use Rattle.rules.specs.Run.{Calls, Ran, LeftIn, missing, ExceedsIn, surplus_among}
use Rattle.rules.proofs.Outcomes.{Numbered, decode_numbered, decode_surplus_numbered}
use Rattle.rules.proofs.Run as run
use Rattle.rules.proofs.Run.{Gives, Sound}
use Rattle.lent.specs.declared.Number.{Number}
use Rattle.lent.specs.declared.refusal.Refusal.{Refusal}
use Rattle.lent.specs.declared.refusal.Refusal.TheVariants.{ThresholdOutOfRange, ThresholdsDiffer, NoLastCode, TooMany, NoRoom, PacketTooShort}
use Rattle.lent.specs.declared.refusal.Refusal.TheVariants.{SumsOutOfRange, NotBelowPrime, BadLine, TooManyLines, NoCoefficient, NotWellFormed}
use Rattle.lent.specs.Refusals.{listed, number_of, number_answer}
use Rattle.lent.proofs.Refusals.{number_back_listed}
use Rattle.power_sum.specs.declared.power_sum.PowerSumQuack.{PowerSumQuack}
use Rattle.power_sum.specs.Answers.{view, built, well_formed_of, sketch_answer, new_of, insert_of, remove_of, sub_assign_of, sub_of}
use Rattle.power_sum.specs.Answers.{decode_of, decode_surplus_of, write_of, write_with_hint_of, read_of}
use Rattle.power_sum.proofs.Struct.{view_built, built_well_formed}
use Rattle.power_sum.proofs.Filled.{holds}
use Rattle.power_sum.proofs.InPlace.{Promised}
use Rattle.power_sum.proofs.power_sum.PowerSumQuack.new.Reads as new
use Rattle.power_sum.proofs.power_sum.PowerSumQuack.insert.Reads as insert
use Rattle.power_sum.proofs.power_sum.PowerSumQuack.remove.Reads as remove
use Rattle.power_sum.proofs.power_sum.PowerSumQuack.sub_assign.Reads as sub_assign
use Rattle.power_sum.proofs.power_sum.PowerSumQuack.sub.Reads as sub
use Rattle.power_sum.proofs.power_sum.PowerSumQuack.decode_with_log.Reads as decode_with_log
use Rattle.power_sum.proofs.power_sum.PowerSumQuack.signed_count.Reads as signed_count
use Rattle.power_sum.proofs.power_sum.PowerSumQuack.decode_surplus_with_log.Reads as decode_surplus_with_log
use Rattle.power_sum.proofs.power_sum.PowerSumQuack.serialize.Reads as serialize
use Rattle.power_sum.proofs.power_sum.PowerSumQuack.serialize_with_hint.Reads as serialize_with_hint
use Rattle.power_sum.proofs.power_sum.PowerSumQuack.deserialize.Reads as deserialize

-- No refusal has the number 0.
some_number : (e : Refusal) → number_of e ≡ 0 → ⊥
some_number ThresholdOutOfRange z = omega arith
some_number ThresholdsDiffer z = omega arith
some_number NoLastCode z = omega arith
some_number TooMany z = omega arith
some_number NoRoom z = omega arith
some_number PacketTooShort z = omega arith
some_number SumsOutOfRange z = omega arith
some_number NotBelowPrime z = omega arith
some_number BadLine z = omega arith
some_number TooManyLines z = omega arith
some_number NoCoefficient z = omega arith
some_number NotWellFormed z = omega arith

-- An answer without a refusal says how many were written.
wrote : (r : Result ℕ Refusal) {n : ℕ} → (number_answer r).refusal ≡ 0 → (number_answer r).value ≡ n → r ≡ Ok n
wrote (Ok m) none many = ap (λ (m : ℕ). Ok m) many
wrote (Err e) none many = absurd (some_number e none)

-- ---- the calls

module _ {T : RattleType} (w : Word T) (p : Passed T) where
  -- A sketch is written, and its written bytes alone are bs.
  pub record Wrote (s : PowerSumQuack T.Denot) (bs : List ℕ) : Type 0 where
    pub κs : Lfts 2
    pub buf : MutBor (List ℕ)
    pub buf₁ : MutBor (List ℕ)
    pub n : ℕ
    pub promised : passing w p serialize.Post κs (s, (buf, tt)) (Ok n) (s, (buf₁, tt))
    pub bytes : bs ≡ take n buf₁.now

  -- The same with the hint m.
  pub record WroteWithHint (s : PowerSumQuack T.Denot) (m : ℕ) (bs : List ℕ) : Type 0 where
    pub κs : Lfts 2
    pub buf : MutBor (List ℕ)
    pub buf₁ : MutBor (List ℕ)
    pub n : ℕ
    pub promised : passing w p serialize_with_hint.Post κs (s, (buf, (m, tt))) (Ok n) (s, (buf₁, (m, tt)))
    pub bytes : bs ≡ take n buf₁.now

  -- A packet of the bytes bs is read.
  pub record Read (bs : List ℕ) (s : PowerSumQuack T.Denot) : Type 0 where
    pub κs : Lfts 2
    pub packet : Bor (List ℕ)
    pub packet₁ : Bor (List ℕ)
    pub bytes : packet.now ≡ bs
    pub promised : passing w p deserialize.Post κs (packet, tt) (Ok s) (packet₁, tt)

  -- What a contract promises of a call that is lent entries to read and a buffer for those that it lists: the entries and the buffer before and after, and
  -- the answer.
  abbrev pub Lists : Type 1
  Lists = Lfts 3 → Bor (List T.Denot) → Bor (List T.Denot) → MutBor (List T.Denot) → MutBor (List T.Denot) → Result ℕ Refusal → Type 0

  -- Decoding a log by a sketch.
  abbrev pub decoding : PowerSumQuack T.Denot → Lists
  decoding s κs log log₁ out out₁ r = passing w p decode_with_log.Post κs (s, (log, (out, tt))) r (s, (log₁, (out₁, tt)))

  -- Decoding the surplus of a sketch among got codes.
  abbrev pub decoding_surplus : PowerSumQuack T.Denot → Lists
  decoding_surplus s κs got got₁ out out₁ r = passing w p decode_surplus_with_log.Post κs (s, (got, (out, tt))) r (s, (got₁, (out₁, tt)))

  -- Entries are listed in a lent buffer by such a call, told by their numbers.
  pub record Listed (promises : Lists) (entries out : List ℕ) (r n : ℕ) (out₁ : List ℕ) : Type 0 where
    pub κs : Lfts 3
    pub entries_lent : Bor (List T.Denot)
    pub entries_lent₁ : Bor (List T.Denot)
    pub out_lent : MutBor (List T.Denot)
    pub out_lent₁ : MutBor (List T.Denot)
    pub answer : Result ℕ Refusal
    pub the_entries : w.width.nums entries_lent.now ≡ entries
    pub the_buffer : w.width.nums out_lent.now ≡ out
    pub left : w.width.nums out_lent₁.now ≡ out₁
    pub told : number_answer answer ≡ record { refusal = r; value = n }
    pub promised : promises κs entries_lent entries_lent₁ out_lent out_lent₁ answer

  -- A promise met by some call is such a list.
  listing : {promises : Lists} (κs : Lfts 3) (entries entries₁ : Bor (List T.Denot)) (out out₁ : MutBor (List T.Denot)) (r : Result ℕ Refusal)
      → promises κs entries entries₁ out out₁ r
      → Listed promises (w.width.nums entries.now) (w.width.nums out.now) (number_answer r).refusal (number_answer r).value (w.width.nums out₁.now)
  listing κs entries entries₁ out out₁ r promised = record {
    κs = κs;
    entries_lent = entries;
    entries_lent₁ = entries₁;
    out_lent = out;
    out_lent₁ = out₁;
    answer = r;
    the_entries = refl;
    the_buffer = refl;
    left = refl;
    told = refl;
    promised = promised;
  }

  -- The calls by what their contracts allow without a refusal. Insert and remove run by value or in place.
  abbrev pub the_calls : Calls
  the_calls = record {
    Form = PowerSumQuack T.Denot;
    Code = Code T.Denot;
    number = λ c. w.width.num c.0;
    view = view w.width;
    fits = well_formed_of w.width;
    makes = λ t s. (κs : Lfts 1) × passing w p new.Post κs (t, tt) (Ok s) (t, tt);
    inserts = λ s c s'. ((κs : Lfts 1) × passing w p insert.Post κs (s, (c, tt)) (Ok s') (s, (c, tt))) ⊎ Promised s (insert_of w.width s c) (Ok tt, s');
    removes = λ s c s'. ((κs : Lfts 1) × passing w p remove.Post κs (s, (c, tt)) (Ok s') (s, (c, tt))) ⊎ Promised s (remove_of w.width s c) (Ok tt, s');
    subtracts_in_place = λ s o s'. (κs : Lfts 1) × passing w p sub_assign.Post κs (s, (o, tt)) (Ok s') (s, (o, tt));
    subtracts = λ s o s'. (κs : Lfts 1) × passing w p sub.Post κs (s, (o, tt)) (Ok s') (s, (o, tt));
    writes = Wrote;
    writes_with_hint = WroteWithHint;
    reads = Read;
    decodes = λ s. Listed (decoding s);
    decodes_surplus = λ s. Listed (decoding_surplus s);
  }

  -- ---- they answer what the rules say

  -- A sketch that is answered without a refusal is what the outcome gives.
  gives : (o : Outcome Sketch) (s : PowerSumQuack T.Denot) → Ok s ≡ sketch_answer w.width o → Gives w.width.kind the_calls o s
  gives (refused n) s e = cc
  gives (given g) s e =
      let same : s ≡ built w.width g = cc in
      record {
        sketch_given = g;
        comes = refl;
        stands = λ well. rw same (record { fits = built_well_formed w.width g well; is = view_built w.width g well });
      }

  -- So it is in place.
  gives_in_place : (before : PowerSumQuack T.Denot) (o : Outcome Sketch) (s : PowerSumQuack T.Denot) → Promised before (sketch_answer w.width o) (Ok tt, s)
      → Gives w.width.kind the_calls o s
  gives_in_place before (refused n) s promised = let e = promised.0 in cc
  gives_in_place before (given g) s promised = gives (given g) s (ap (λ (t : PowerSumQuack T.Denot). Ok t) promised.1)

  -- A list that is told is what the rule lists.
  tells : {promises : Lists} {entries out : List ℕ} {r n : ℕ} {out₁ : List ℕ} (l : Listed promises entries out r n out₁) (o : Outcome (List ℕ)) → Numbered o
      → l.answer ≡ listed o → w.width.nums l.out_lent₁.now ≡ written o (w.width.nums l.out_lent.now)
      → (r ≡ refusal_of o) × (n ≡ length_of o) × (out₁ ≡ written o out)
  tells l o numbered answers leaves =
      let said = sym l.told ∙ ap number_answer answers ∙ number_back_listed o numbered in (
        ap (λ (a : Number). a.refusal) said,
        ap (λ (a : Number). a.value) said,
        sym l.left ∙ leaves ∙ ap (written o) l.the_buffer,
      )

  -- As many places are lent as the buffer has numbers.
  places : {promises : Lists} {entries out : List ℕ} {r n : ℕ} {out₁ : List ℕ} (l : Listed promises entries out r n out₁) → length l.out_lent.now ≡ length out
  places l = sym (nums_length w.width l.out_lent.now) ∙ ap (λ (m : List ℕ). length m) l.the_buffer

  sound : Sound w.width.kind the_calls
  unfolding new_of insert_of remove_of sub_assign_of sub_of write_of write_with_hint_of read_of decode_of decode_surplus_of
  sound = record {
    makes = λ t s q. gives _ s q.1;
    inserts = λ s s' c q. ⊎_elim (λ q. gives _ s' q.1) (gives_in_place s _ s') q;
    removes = λ s s' c q. ⊎_elim (λ q. gives _ s' q.1) (gives_in_place s _ s') q;
    subtracts_in_place = λ s o s' q. gives _ s' q.1;
    subtracts = λ s o s' q. gives _ s' q.1;
    writes = λ s bs q.
        let h = holds _ q.buf.now q.promised.0 refl q.promised.1 in
        (length q.buf.now, h.comes ∙ ap given (sym (q.bytes ∙ h.front)));
    writes_with_hint = λ s m bs q.
        let h = holds _ q.buf.now q.promised.0 refl q.promised.1 in
        (length q.buf.now, h.comes ∙ ap given (sym (q.bytes ∙ h.front)));
    reads = λ bs s q. gives _ s (rw q.bytes at q.promised);
    decodes = λ s log out r n out₁ l.
        let q = rw (l.the_entries, places l) at l.promised in
        tells l _ (decode_numbered w.width.kind (well_formed_of w.width s) (view w.width s) log (length out)) q.0 q.1;
    decodes_surplus = λ s got out r n out₁ l.
        let q = rw (l.the_entries, places l) at l.promised in
        tells l _ (decode_surplus_numbered w.width.kind (well_formed_of w.width s) (view w.width s) got (length out)) q.0 q.1;
  }

  -- ---- the promise

  -- Every call keeps a sketch well formed.
  pub well_formed_lem : {h : History} {s : PowerSumQuack T.Denot} → Ran the_calls h s → well_formed_of w.width s ≡ true
  well_formed_lem ran = run.well_formed_lem w.width.kind the_calls sound ran

  -- The count is how many are left.
  pub count_exact : {h : History} {s : PowerSumQuack T.Denot} {n : ℕ} → Ran the_calls h s → LeftIn w.width.kind h s.threshold n → s.count ≡ n
  count_exact ran left = run.count_exact w.width.kind the_calls sound ran left

  -- Decoding any log, with room for it, is not refused, answers how many entries are missing, and leaves exactly them at the front of the lent buffer;
  -- the buffer's later places are as they were.
  pub decode_exact : {h : History} {s : PowerSumQuack T.Denot} {n : ℕ} → Ran the_calls h s → LeftIn w.width.kind h s.threshold n
      → (κs : Lfts 3) (log log₁ : Bor (List T.Denot)) (out out₁ : MutBor (List T.Denot)) (r : Result ℕ Refusal) → length log.now ≤ length out.now
      → passing w p decode_with_log.Post κs (s, (log, (out, tt))) r (s, (log₁, (out₁, tt)))
      → let list = missing w.width.kind h (w.width.nums log.now) in
      (r ≡ Ok (length list)) × (w.width.nums out₁.now ≡ list ++ drop (length list) (w.width.nums out.now))
  decode_exact ran left κs log log₁ out out₁ r room promised =
      let enough : length (w.width.nums log.now) ≤ length (w.width.nums out.now) = rw (nums_length w.width log.now, nums_length w.width out.now) room in
      let d = run.decode_exact w.width.kind the_calls sound ran left (w.width.nums log.now) (w.width.nums out.now) _ _ (w.width.nums out₁.now) enough
      (listing κs log log₁ out out₁ r promised) in
      (wrote r d.0 d.1, d.2)

  -- Two sketches that leave equally many, with the same first sums, leave the same: their net numbers agree, residue by residue.
  pub same_net : {h g : History} {s o : PowerSumQuack T.Denot} {n : ℕ} → Ran the_calls h s → LeftIn w.width.kind h s.threshold n → Ran the_calls g o
      → LeftIn w.width.kind g o.threshold n → take n (view w.width s).sums ≡ take n (view w.width o).sums
      → (r : ℕ) → net w.width.kind h r ≡ net w.width.kind g r
  same_net ran left other also e = run.same_net w.width.kind the_calls sound ran left other also e

  -- ---- the promise with the roles changed

  -- The signed count is how many are surplus, below zero.
  pub signed_exact : {h : History} {s : PowerSumQuack T.Denot} {n : ℕ} → Ran the_calls h s → ExceedsIn w.width.kind h s.threshold n
      → (κs : Lfts 1) (r : ℤ) → passing w p signed_count.Post κs (s, tt) r (s, tt) → r ≡ neg_ℤ (pos n)
  signed_exact ran over κs r promised = promised ∙ run.signed_exact w.width.kind the_calls sound ran over

  -- Decoding the surplus among any got codes, with room for them, is not refused, answers how many of them are surplus, and leaves exactly those at the
  -- front of the lent buffer; the buffer's later places are as they were.
  pub surplus_exact : {h : History} {s : PowerSumQuack T.Denot} {n : ℕ} → Ran the_calls h s → ExceedsIn w.width.kind h s.threshold n
      → (κs : Lfts 3) (got got₁ : Bor (List T.Denot)) (out out₁ : MutBor (List T.Denot)) (r : Result ℕ Refusal) → length got.now ≤ length out.now
      → passing w p decode_surplus_with_log.Post κs (s, (got, (out, tt))) r (s, (got₁, (out₁, tt)))
      → let list = surplus_among w.width.kind h (w.width.nums got.now) in
      (r ≡ Ok (length list)) × (w.width.nums out₁.now ≡ list ++ drop (length list) (w.width.nums out.now))
  surplus_exact ran over κs got got₁ out out₁ r room promised =
      let enough : length (w.width.nums got.now) ≤ length (w.width.nums out.now) = rw (nums_length w.width got.now, nums_length w.width out.now) room in
      let d = run.surplus_exact w.width.kind the_calls sound ran over (w.width.nums got.now) (w.width.nums out.now) _ _ (w.width.nums out₁.now) enough
      (listing κs got got₁ out out₁ r promised) in
      (wrote r d.0 d.1, d.2)

  -- Two sketches with equally many surplus, and the same first sums, have the same surplus: their net numbers agree, residue by residue.
  pub same_excess : {h g : History} {s o : PowerSumQuack T.Denot} {n : ℕ} → Ran the_calls h s → ExceedsIn w.width.kind h s.threshold n
      → Ran the_calls g o → ExceedsIn w.width.kind g o.threshold n → take n (view w.width s).sums ≡ take n (view w.width o).sums
      → (r : ℕ) → excess w.width.kind h r ≡ excess w.width.kind g r
  same_excess ran over other also e = run.same_excess w.width.kind the_calls sound ran over other also e

  -- ---- a packet

  -- A sketch that is read from any bytes is well formed.
  pub read_well_formed : (bs : List ℕ) → AllBelow 256 bs → {s : PowerSumQuack T.Denot} → Read bs s → well_formed_of w.width s ≡ true
  read_well_formed bs below q = run.read_fits w.width.kind the_calls sound bs below q

  -- A packet read and written again gives its first bytes, as many as its sums say, with the last code reduced.
  pub read_and_written : (bs : List ℕ) → AllBelow 256 bs → {s : PowerSumQuack T.Denot} {again : List ℕ} → Read bs s → Wrote s again
      → let K = w.width.kind in
      again
      ≡ take count_bytes bs ++ (bytes K.code_bytes (residue K (number (take K.code_bytes (drop count_bytes bs))))
      ++ take (sums_in K (length bs) * K.code_bytes) (drop (sums_at K) bs))
  read_and_written bs below q again = run.read_and_written w.width.kind the_calls sound bs below q again

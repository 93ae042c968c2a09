-- The promise for calls that run: along any history none of whose calls is refused, the list that decoding leaves in the buffer that it was lent is exact.
-- For any form of a sketch whose calls answer what the rules say of the sketch that the form stands for.
-- Assumes nothing.
use Prim.Native.Nat.{ℕ, ◌*◌, ◌≤◌}
use mathlib.Core.Path.{◌≡◌, sym, ◌∙◌, ap, subst}
use mathlib.Core.Bool.{true, ◌&&◌}
use mathlib.Core.List.{List, ◌++◌}
use lib.Dec.{eqb}
use lib.IntN.{pos, neg_ℤ}
use lib.ListN.{length, take, drop}
use borrow.Author.Tests.{eqb-true}
use Rattle.rules.specs.Kind.{Kind, count_bytes}
use Rattle.newton.specs.Members.{AllBelow}
use Rattle.rules.specs.Field.{residue}
use Rattle.rules.specs.Signed.{signed_count}
use Rattle.rules.specs.Packet.{bytes, number, sums_at, sums_in, sketch_in}
use Rattle.rules.specs.Sketch as sketch
use Rattle.rules.specs.Sketch.{Sketch, WellFormed, in_range}
use Rattle.rules.specs.Calls as calls
use Rattle.rules.specs.Calls.{Outcome, given, refusal_of, length_of, written}
use Rattle.rules.specs.History as history
use Rattle.rules.specs.History.{History, sketch_of, Allowed, net, Leaves, excess, Exceeds}
use Rattle.rules.specs.Run.{Calls, Ran, made, inserted, removed, subtracted_in_place, subtracted, carried, carried_by_hint, LeftIn, missing}
use Rattle.rules.specs.Run.{ExceedsIn, surplus_among}
use Rattle.rules.proofs.WellFormed.{in_range_parts}
use Rattle.rules.proofs.Packet.{passed, hint_unrefused, read_is_said, read_well_formed, given_again}
use Rattle.rules.proofs.Promise as promise
use Rattle.rules.proofs.Surplus as surplus

module _ (K : Kind) (C : Calls) where
  -- A form stands for a sketch: it passes the test, and it is the sketch that is read off it.
  pub record Stands (s : C.Form) (g : Sketch) : Type 0 where
    pub fits : C.fits s ≡ true
    pub is : C.view s ≡ g

  -- A form is what an outcome gives: it stands for the sketch given, where that is well formed.
  pub record Gives (o : Outcome Sketch) (s : C.Form) : Type 0 where
    pub sketch_given : Sketch
    pub comes : o ≡ given sketch_given
    pub stands : WellFormed K sketch_given → Stands s sketch_given

  -- Each call answers what its rule says of the forms that it is given.
  pub record Sound : Type 0 where
    pub makes : (t : ℕ) (s : C.Form) → C.makes t s → Gives (calls.make K t) s
    pub inserts : (s s' : C.Form) (c : C.Code) → C.inserts s c s' → Gives (calls.insert K (C.fits s) (C.view s) (C.number c)) s'
    pub removes : (s s' : C.Form) (c : C.Code) → C.removes s c s' → Gives (calls.remove K (C.fits s) (C.view s) (C.number c)) s'
    pub subtracts_in_place : (s o s' : C.Form) → C.subtracts_in_place s o s'
        → Gives (calls.sub_assign K (C.fits s && C.fits o) (C.view s) (C.view o)) s'
    pub subtracts : (s o s' : C.Form) → C.subtracts s o s' → Gives (calls.sub K (C.fits s && C.fits o) (C.view s) (C.view o)) s'
    pub writes : (s : C.Form) (bs : List ℕ) → C.writes s bs → (room : ℕ) × (calls.write K (C.fits s) (C.view s) room ≡ given bs)
    pub writes_with_hint : (s : C.Form) (m : ℕ) (bs : List ℕ) → C.writes_with_hint s m bs
        → (room : ℕ) × (calls.write_with_hint K (C.fits s) (C.view s) m room ≡ given bs)
    pub reads : (bs : List ℕ) (s : C.Form) → C.reads bs s → Gives (calls.read K bs) s
    pub decodes : (s : C.Form) (log out : List ℕ) (r n : ℕ) (out₁ : List ℕ) → C.decodes s log out r n out₁
        → let o = calls.decode K (C.fits s) (C.view s) log (length out) in (r ≡ refusal_of o) × (n ≡ length_of o) × (out₁ ≡ written o out)
    pub decodes_surplus : (s : C.Form) (got out : List ℕ) (r n : ℕ) (out₁ : List ℕ) → C.decodes_surplus s got out r n out₁
        → let o = calls.decode_surplus K (C.fits s) (C.view s) got (length out) in (r ≡ refusal_of o) × (n ≡ length_of o) × (out₁ ≡ written o out)

module _ (K : Kind) (C : Calls) (sound : Sound K C) where
  given_same : {g g' : Sketch} → given g ≡ given g' → g ≡ g'
  given_same e = cc

  -- What is given without a refusal stands for the rule's sketch.
  follows_on : {o : Outcome Sketch} {g : Sketch} {s : C.Form} → Gives K C o s → o ≡ given g → WellFormed K g → Stands K C s g
  follows_on {o} {g} {s} gives e w =
      let same : gives.sketch_given ≡ g = given_same (sym gives.comes ∙ e) in
      (rw same at gives.stands) w

  -- Such a history is one that the rules allow, and the form stands for its sketch.
  record Follows (h : History) (s : C.Form) : Type 0 where
    allowed : Allowed K h
    stands : Stands K C s (sketch_of K h)

  well : (h : History) → Allowed K h → WellFormed K (sketch_of K h)
  well h a = promise.well_formed_lem K h a

  -- ---- one call more

  after_new : (t : ℕ) (s : C.Form) → C.makes t s → Follows (history.fresh t) s
  unfolding calls.make
  after_new t s p =
      let gives = sound.makes t s p in
      let there = passed (in_range K t) 1 (given (sketch.fresh t)) gives.sketch_given gives.comes in
      let range = in_range_parts K t there.0 in
      record { allowed = range; stands = follows_on gives (rw there.0) (well (history.fresh t) range) }

  module _ (h : History) (s : C.Form) (f : Follows h s) where
    after_insert : (c : C.Code) (s' : C.Form) → C.inserts s c s' → Follows (history.insert h (C.number c)) s'
    unfolding calls.insert
    after_insert c s' p = record {
      allowed = f.allowed;
      stands = follows_on (sound.inserts s s' c p) (rw (f.stands.fits, f.stands.is)) (well (history.insert h (C.number c)) f.allowed);
    }

    after_remove : (c : C.Code) (s' : C.Form) → C.removes s c s' → Follows (history.remove h (C.number c)) s'
    unfolding calls.remove
    after_remove c s' p = record {
      allowed = f.allowed;
      stands = follows_on (sound.removes s s' c p) (rw (f.stands.fits, f.stands.is)) (well (history.remove h (C.number c)) f.allowed);
    }

    after_carrying : (bs : List ℕ) (s' : C.Form) → C.writes s bs → C.reads bs s' → Follows h s'
    after_carrying bs s' wrote read =
        let there = sound.writes s bs wrote in
        let written = rw (f.stands.fits, f.stands.is) at there.1 in
        record {
          allowed = f.allowed;
          stands = follows_on (sound.reads bs s' read) (promise.carried_whole K h f.allowed there.0 bs written) (well h f.allowed);
        }

    after_carrying_by_hint : (m : ℕ) (bs : List ℕ) (s' : C.Form) → 1 ≤ m → C.writes_with_hint s m bs → C.reads bs s' → Follows (history.carried h m) s'
    after_carrying_by_hint m bs s' l wrote read =
        let there = sound.writes_with_hint s m bs wrote in
        let written = rw (f.stands.fits, f.stands.is) at there.1 in
        let last = (hint_unrefused K (sketch_of K h) there.0 m (ap refusal_of written)).0 in
        record {
          allowed = (f.allowed, l, last);
          stands = follows_on (sound.reads bs s' read) (promise.carried_on_by_hint K h f.allowed m there.0 bs l written)
              (well (history.carried h m) (f.allowed, l, last));
        }

  module _ (h k : History) (s o : C.Form) (f : Follows h s) (e : Follows k o) where
    after_sub_assign : (s' : C.Form) → C.subtracts_in_place s o s' → Follows (history.sub_assign h k) s'
    unfolding calls.sub_assign
    after_sub_assign s' p =
        let gives = sound.subtracts_in_place s o s' p in
        let comes = rw (f.stands.fits, e.stands.fits, f.stands.is, e.stands.is) at gives.comes in
        let same = eqb (sketch_of K h).threshold (sketch_of K k).threshold in
        let there = passed same 2 (given (sketch.subtract K (sketch_of K h) (sketch_of K k))) gives.sketch_given comes in
        let agree = eqb-true (sketch_of K h).threshold (sketch_of K k).threshold there.0 in
        record {
          allowed = (f.allowed, e.allowed, agree);
          stands = follows_on gives (rw (f.stands.fits, e.stands.fits, f.stands.is, e.stands.is, there.0))
              (well (history.sub_assign h k) (f.allowed, e.allowed, agree));
        }

    after_sub : (s' : C.Form) → C.subtracts s o s' → Follows (history.sub h k) s'
    unfolding calls.sub
    after_sub s' p = record {
      allowed = (f.allowed, e.allowed);
      stands = follows_on (sound.subtracts s o s' p) (rw (f.stands.fits, e.stands.fits, f.stands.is, e.stands.is))
          (well (history.sub h k) (f.allowed, e.allowed));
    }

  follows : {h : History} {s : C.Form} → Ran C h s → Follows h s
  follows (made {s} t p) = after_new t s p
  follows (inserted {h} {s} {s'} c r p) = after_insert h s (follows r) c s' p
  follows (removed {h} {s} {s'} c r p) = after_remove h s (follows r) c s' p
  follows (subtracted_in_place {h} {g} {s} {o} {s'} r q p) = after_sub_assign h g s o (follows r) (follows q) s' p
  follows (subtracted {h} {g} {s} {o} {s'} r q p) = after_sub h g s o (follows r) (follows q) s' p
  follows (carried {h} {s} {s'} bs r p q) = after_carrying h s (follows r) bs s' p q
  follows (carried_by_hint {h} {s} {s'} m bs r l p q) = after_carrying_by_hint h s (follows r) m bs s' l p q

  -- Every call keeps a form well formed: it passes the test.
  pub well_formed_lem : {h : History} {s : C.Form} → Ran C h s → C.fits s ≡ true
  well_formed_lem r = (follows r).stands.fits

  -- ---- the promise

  leaves : {h : History} {s : C.Form} {n : ℕ} → Ran C h s → LeftIn K h (C.view s).threshold n → Leaves K h n
  leaves {h} {s} {n} r l =
      let f = follows r in
      record {
        allowed = f.allowed;
        none_below = l.none_below;
        in_all = l.in_all;
        enough = subst (λ (t : ℕ). n ≤ t) (ap (λ (g : Sketch). g.threshold) f.stands.is) l.enough;
      }

  -- The count is how many are left.
  pub count_exact : {h : History} {s : C.Form} {n : ℕ} → Ran C h s → LeftIn K h (C.view s).threshold n → (C.view s).count ≡ n
  count_exact r l = ap (λ (g : Sketch). g.count) (follows r).stands.is ∙ promise.count_exact K _ _ (leaves r l)

  -- Decoding any log, with room for it, is not refused, answers how many entries are missing, and leaves exactly them at the front of the lent buffer;
  -- the buffer's later places are as they were.
  pub decode_exact : {h : History} {s : C.Form} {n : ℕ} → Ran C h s → LeftIn K h (C.view s).threshold n → (log out : List ℕ) (r m : ℕ) (out₁ : List ℕ)
      → length log ≤ length out → C.decodes s log out r m out₁
      → (r ≡ 0) × (m ≡ length (missing K h log)) × (out₁ ≡ missing K h log ++ drop (length (missing K h log)) out)
  decode_exact {h} {s} {n} ran left log out r m out₁ room p =
      let d = sound.decodes s log out r m out₁ p in
      (d.0 ∙ ap refusal_of lists, d.1 ∙ ap length_of lists, d.2 ∙ ap (λ (o : Outcome (List ℕ)). written o out) lists)
    where
      lists : calls.decode K (C.fits s) (C.view s) log (length out) ≡ given (missing K h log)
      lists =
          let f = follows ran in
          rw (f.stands.fits, f.stands.is) (promise.decode_exact K h n (leaves ran left) log (length out) room)

  -- The first sums of a form are those of its history's sketch.
  first_sums : (n : ℕ) {h : History} {s : C.Form} → Ran C h s → take n (C.view s).sums ≡ take n (sketch_of K h).sums
  first_sums n run = ap (λ (g : Sketch). take n g.sums) (follows run).stands.is

  -- Two sketches that leave equally many, with the same first sums, leave the same: their net numbers agree, residue by residue.
  pub same_net : {h g : History} {s o : C.Form} {n : ℕ} → Ran C h s → LeftIn K h (C.view s).threshold n → Ran C g o → LeftIn K g (C.view o).threshold n
      → take n (C.view s).sums ≡ take n (C.view o).sums → (r : ℕ) → net K h r ≡ net K g r
  same_net {h} {g} {s} {o} {n} ran left other also e =
      promise.same_net K h g n (leaves ran left) (leaves other also) (sym (first_sums n ran) ∙ e ∙ first_sums n other)

  -- ---- the promise with the roles changed

  -- The premise for a form is that for its history.
  exceeds : {h : History} {s : C.Form} {n : ℕ} → Ran C h s → ExceedsIn K h (C.view s).threshold n → Exceeds K h n
  exceeds {h} {s} {n} r l =
      let f = follows r in
      record {
        allowed = f.allowed;
        none_above = l.none_above;
        in_all = l.in_all;
        few = subst (λ (t : ℕ). n ≤ t) (ap (λ (g : Sketch). g.threshold) f.stands.is) l.few;
      }

  -- The signed count is how many are surplus, below zero.
  pub signed_exact : {h : History} {s : C.Form} {n : ℕ} → Ran C h s → ExceedsIn K h (C.view s).threshold n
      → signed_count (C.view s).count ≡ neg_ℤ (pos n)
  signed_exact {h} {s} {n} r l = ap (λ (g : Sketch). signed_count g.count) (follows r).stands.is ∙ surplus.signed_exact K h n (exceeds r l)

  -- Decoding the surplus among any got codes, with room for them, is not refused, answers how many of them are surplus, and leaves exactly those at the
  -- front of the lent buffer; the buffer's later places are as they were.
  pub surplus_exact : {h : History} {s : C.Form} {n : ℕ} → Ran C h s → ExceedsIn K h (C.view s).threshold n → (got out : List ℕ) (r m : ℕ) (out₁ : List ℕ)
      → length got ≤ length out → C.decodes_surplus s got out r m out₁
      → (r ≡ 0) × (m ≡ length (surplus_among K h got)) × (out₁ ≡ surplus_among K h got ++ drop (length (surplus_among K h got)) out)
  surplus_exact {h} {s} {n} ran over got out r m out₁ room p =
      let d = sound.decodes_surplus s got out r m out₁ p in
      (d.0 ∙ ap refusal_of lists, d.1 ∙ ap length_of lists, d.2 ∙ ap (λ (o : Outcome (List ℕ)). written o out) lists)
    where
      lists : calls.decode_surplus K (C.fits s) (C.view s) got (length out) ≡ given (surplus_among K h got)
      lists =
          let f = follows ran in
          rw (f.stands.fits, f.stands.is) (surplus.surplus_exact K h n (exceeds ran over) got (length out) room)

  -- Two sketches with equally many surplus, and the same first sums, have the same surplus: their net numbers agree, residue by residue.
  pub same_excess : {h g : History} {s o : C.Form} {n : ℕ} → Ran C h s → ExceedsIn K h (C.view s).threshold n → Ran C g o
      → ExceedsIn K g (C.view o).threshold n → take n (C.view s).sums ≡ take n (C.view o).sums → (r : ℕ) → excess K h r ≡ excess K g r
  same_excess {h} {g} {s} {o} {n} ran over other also e =
      surplus.same_excess K h g n (exceeds ran over) (exceeds other also) (sym (first_sums n ran) ∙ e ∙ first_sums n other)

  -- ---- a packet

  -- A form that is read from any bytes is well formed.
  pub read_fits : (bs : List ℕ) → AllBelow 256 bs → {s : C.Form} → C.reads bs s → C.fits s ≡ true
  read_fits bs below {s} p =
      let g = sound.reads bs s p in
      (g.stands (read_well_formed K bs g.sketch_given g.comes below)).fits

  -- Read and written again, a packet gives its first bytes, as many as its sums say, with the last code reduced.
  pub read_and_written : (bs : List ℕ) → AllBelow 256 bs → {s : C.Form} {again : List ℕ} → C.reads bs s → C.writes s again
      → again
      ≡ take count_bytes bs ++ (bytes K.code_bytes (residue K (number (take K.code_bytes (drop count_bytes bs))))
      ++ take (sums_in K (length bs) * K.code_bytes) (drop (sums_at K) bs))
  unfolding sketch_in
  read_and_written bs below {s} {again} p q =
      let g = sound.reads bs s p in
      let st = g.stands (read_well_formed K bs g.sketch_given g.comes below) in
      let w = sound.writes s again q in
      let many : g.sketch_given.threshold ≡ sums_in K (length bs) = ap (λ (k : Sketch). k.threshold) (read_is_said K bs g.sketch_given g.comes) in
      given_again K bs g.sketch_given g.comes below w.0 again (rw (st.fits, st.is) at w.1) ∙ rw many

-- The struct of a negated sketch: a fresh struct less it, and what decoding it comes to. Over any width.
-- Assumes nothing.
use Rattle.std.proofs.Common.{◌≡◌, ℕ, ◌<◌, true, List, map, length, refl, sym, ◌∙◌, le-leb, Result, Ok}
use Rattle.modint.specs.Width.{Width}
use Rattle.modint.specs.Answers.{val}
use Rattle.rules.specs.Kind.{counts}
use Rattle.rules.specs.Sketch.{WellFormed, fresh, negate}
use Rattle.rules.specs.Calls as calls
use Rattle.rules.proofs.WellFormed.{fresh_well_formed, well_formed_parts}
use Rattle.rules.proofs.Negation.{negate_well_formed, nothing_less}
use Rattle.lent.specs.declared.refusal.Refusal.{Refusal}
use Rattle.power_sum.specs.declared.power_sum.PowerSumQuack.{PowerSumQuack}
use Rattle.power_sum.specs.Answers.{view, last_of, built, well_formed_of, new_of, sub_of, negate_of, decode_of}
use Rattle.power_sum.proofs.Struct.{within, view_built, built_well_formed}

-- Of two answers that are one and the same, both are given, and so is the same.
same_given : {A : Type 0} {a b : A} {r : Result A Refusal} → r ≡ Ok a → r ≡ Ok b → a ≡ b
same_given e f = let p = sym e ∙ f in cc

-- A struct that passes the test, with all its places and a count.
module _ {W : Type 0} (w : Width W) (s : PowerSumQuack W) (full : length s.sums ≡ 32) (ok : well_formed_of w s ≡ true) (counted : s.count < counts) where
  -- It stands for a well-formed sketch.
  stands : WellFormed w.kind (view w s)
  stands = well_formed_parts w.kind s.threshold (map (val w) s.sums) (last_of w s.last) ok (within w s (full ∙ sym w.places) ok refl) s.count counted

  -- A fresh struct of its threshold can be made.
  pub new_made : new_of w s.threshold ≡ Ok (built w (fresh s.threshold))
  unfolding new_of calls.make
  new_made = rw (le-leb 1 s.threshold stands.at_least, le-leb s.threshold w.kind.greatest stands.at_most)

  -- That less it is the negated one.
  pub negate_subtracts : {r : Result (PowerSumQuack W) Refusal} {z : PowerSumQuack W} → r ≡ new_of w s.threshold → r ≡ Ok z → sub_of w z s ≡ negate_of w s
  unfolding sub_of negate_of calls.sub calls.negate
  negate_subtracts made is =
      rw (
        same_given is (made ∙ new_made),
        built_well_formed w (fresh s.threshold) zeros,
        view_built w (fresh s.threshold) zeros,
        ok,
        nothing_less w.kind (view w s) stands,
      )
    where
      zeros : WellFormed w.kind (fresh s.threshold)
      zeros = fresh_well_formed w.kind s.threshold stands.at_least stands.at_most

  -- It can be negated.
  pub negate_made : negate_of w s ≡ Ok (built w (negate w.kind (view w s)))
  unfolding negate_of calls.negate
  negate_made = rw ok

  -- Decoding by the negated struct is decoding by the negated sketch.
  pub negated_decodes : {r : Result (PowerSumQuack W) Refusal} {z : PowerSumQuack W} → r ≡ negate_of w s → r ≡ Ok z → (got : List ℕ) (places : ℕ)
      → decode_of w z got places ≡ calls.decode w.kind true (negate w.kind (view w s)) got places
  unfolding decode_of
  negated_decodes made is got places =
      rw (
        same_given is (made ∙ negate_made),
        built_well_formed w (negate w.kind (view w s)) negated,
        view_built w (negate w.kind (view w s)) negated,
      )
    where
      negated : WellFormed w.kind (negate w.kind (view w s))
      negated = negate_well_formed w.kind (view w s) stands

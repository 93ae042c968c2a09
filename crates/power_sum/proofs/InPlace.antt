-- The calls on a lent sketch: what each promises of its refusal and of the sketch that it leaves, and that it determines both.
-- Assumes nothing.
use Rattle.std.proofs.Common.{◌≡◌, ℕ, ◌^◌, ◌<◌, lit<, refl, sym, ◌∙◌, MutBor}
use Rattle.std.specs.Prelude.{Result, Ok, Err}
use mathlib.Core.List.{not-mem-nil}
use denote.RattleType.{RattleType}
use denote.Builtin.{u16, u32}
use seplogic.Ra.Ura.{Ura}
use base.Logic.{SProp, ent, emp, sep, via, both⊢, emp∗, mono_l}
use prog.Memory.{Memory, size}
use prog.Routine.{Routine}
use package.types.Logic.{Logic}
use contract.Monad.{Fun, fact, fact_i, top}
use contract.Lifetimes.{Lfts}
use contract.BorrowLft.{◌⊑◌}
use denote.Param.{layout}
use denote.Triple.Entry.{Args}
use denote.Triple.Clauses.{Clauses}
use Rattle.lent.specs.declared.refusal.Refusal.{Refusal}
use Rattle.modint.specs.Width.{width16, width32}
use Rattle.modint.specs.declared.Code.{Code}
use Rattle.modint.proofs.Blocks.{Word, word16, word32, Passed, passing, AtBoth}
use Rattle.rules.specs.Determines.{Determines}
use Rattle.rules.proofs.Determined.{by_equation}
use Rattle.power_sum.specs.declared.power_sum.PowerSumQuack.{PowerSumQuack}
use Rattle.power_sum.specs.Answers.{insert_of, remove_of, only_refusal, left_in}
use Rattle.power_sum.specs.contracts.power_sum.PowerSumQuack.{the_row}
use Rattle.power_sum.specs.contracts.power_sum.PowerSumQuack.insert_in_place as insert
use Rattle.power_sum.specs.contracts.power_sum.PowerSumQuack.remove_in_place as remove
use Rattle.power_sum.proofs.power_sum.PowerSumQuack.insert_in_place.Reads as insert_call
use Rattle.power_sum.proofs.power_sum.PowerSumQuack.remove_in_place.Reads as remove_call
use Rattle.power_sum.proofs.power_sum.PowerSumQuack.insert_once.Reads as insert_once
use Rattle.power_sum.proofs.power_sum.PowerSumQuack.remove_once.Reads as remove_once

-- What a call in place promises of its refusal and of the sketch that it leaves, where the call by value has this answer.
abbrev pub Promised : {S : Type 0} → S → Result S Refusal → Result (Unit {0}) Refusal × S → Type 0
Promised before a o = (o.0 ≡ only_refusal a) × (o.1 ≡ left_in before a)

-- So a call that is refused leaves the sketch as it was.
pub refused_stays : {S : Type 0} {before after : S} (a : Result S Refusal) {e : Refusal} → Promised before a (Err e, after) → after ≡ before
refused_stays (Ok s) promised = let p = promised.0 in cc
refused_stays (Err d) promised = promised.1

-- The promise determines both.
pub determined : {S : Type 0} (before : S) (a : Result S Refusal) (o o' : Result (Unit {0}) Refusal × S) → Promised before a o → Promised before a o' → o ≡ o'
determined before a o o' p p' = λ i. ((p.0 ∙ sym p'.0) i, (p.1 ∙ sym p'.1) i)

-- What asks for two facts that hold asks for nothing.
pub asks_nothing : {M : Type 1} (𝓤 : Ura M) {φ ψ : Type 0} → φ → ψ → sep 𝓤 (fact 𝓤 φ) (sep 𝓤 (fact 𝓤 ψ) (emp 𝓤)) ≡ emp 𝓤
asks_nothing 𝓤 {φ} {ψ} f g = both⊢ 𝓤 (top 𝓤 (sep 𝓤 (fact 𝓤 φ) (held (emp 𝓤) ψ))) (via 𝓤 (held (emp 𝓤) ψ) (beside (emp 𝓤) ψ g) (beside (held (emp 𝓤) ψ) φ f))
  where
    held : SProp 𝓤 → Type 0 → SProp 𝓤
    held P χ = sep 𝓤 (fact 𝓤 χ) P

    beside : (P : SProp 𝓤) (χ : Type 0) → χ → ent 𝓤 P (held P χ)
    beside P χ x = via 𝓤 (sep 𝓤 (emp 𝓤) P) (emp∗ 𝓤 P) (mono_l 𝓤 P (fact_i 𝓤 χ (emp 𝓤) x))

module _ {T : RattleType} (w : Word T) (p : Passed T) where
  -- What a call in place ensures, and nothing else, where the call by value answers by a rule.
  abbrev pub promises : (PowerSumQuack T.Denot → Code T.Denot → Result (PowerSumQuack T.Denot) Refusal) → {M : Type 1} (𝓤 : Ura M)
      → (κs : Lfts 2) → Args (insert.signature T) κs → Unit {0} → Result (Unit {0}) Refusal → MutBor (PowerSumQuack T.Denot) × (Code T.Denot × Unit {0}) → SProp 𝓤
  promises rule 𝓤 κs a _ r e = fact 𝓤 (Promised a.0.now (rule a.0.now a.1.0) (r, e.0.now))

  -- Such a call as a whole: it asks for nothing, and promises that.
  abbrev pub promises_alone : (PowerSumQuack T.Denot → Code T.Denot → Result (PowerSumQuack T.Denot) Refusal) → {M : Type 1} (𝓤 : Ura M)
      → Clauses 𝓤 (insert.ended T w p.word_code p.clone p.clone_code p.equal p.equal_code)
  promises_alone rule 𝓤 κs a = record { ghost = Unit {0}; requires = λ _. emp 𝓤; ensures = promises rule 𝓤 κs a }

  module _ {M : Type 1} {𝓤 : Ura M} (𝓛 : Logic 𝓤) (at_mem : Memory → SProp 𝓤) (run : Routine → Fun 𝓤) (κs : Lfts 2) where
    -- Insert in place promises what the rule of insert answers, and nothing else.
    pub insert_promises : (a : Args (insert.signature T) κs)
        → (insert.clauses T w p.word_code p.clone p.clone_code p.equal p.equal_code 𝓛 at_mem run κs a).ensures ≡ promises (insert_of w.width) 𝓤 κs a
    insert_promises a = refl

    -- Remove in place promises what the rule of remove answers, and nothing else.
    pub remove_promises : (a : Args (remove.signature T) κs)
        → (remove.clauses T w p.word_code p.clone p.clone_code p.equal p.equal_code 𝓛 at_mem run κs a).ensures ≡ promises (remove_of w.width) 𝓤 κs a
    remove_promises a = refl

  module _ {M : Type 1} {𝓤 : Ura M} (𝓛 : Logic 𝓤) (at_mem : Memory → SProp 𝓤) (run : Routine → Fun 𝓤) (lasts : (κs : Lfts 2) → κs.1.0 ⊑ T.lives)
      (fits : size (layout (the_row (insert.W-row T))) < 2 ^ 63) where
    -- Where values of the type outlive every call and a sketch fits in memory, the whole clauses of insert in place are its promise.
    pub insert_whole : insert.clauses T w p.word_code p.clone p.clone_code p.equal p.equal_code 𝓛 at_mem run ≡ promises_alone (insert_of w.width) 𝓤
    insert_whole = λ i κs a. record { ghost = Unit {0}; requires = λ _. asks_nothing 𝓤 (lasts κs) fits i; ensures = promises (insert_of w.width) 𝓤 κs a }

    -- So are those of remove in place.
    pub remove_whole : remove.clauses T w p.word_code p.clone p.clone_code p.equal p.equal_code 𝓛 at_mem run ≡ promises_alone (remove_of w.width) 𝓤
    remove_whole = λ i κs a. record { ghost = Unit {0}; requires = λ _. asks_nothing 𝓤 (lasts κs) fits i; ensures = promises (remove_of w.width) 𝓤 κs a }

  -- Insert in place determines its refusal and the sketch that it leaves.
  pub insert_determined : (s : PowerSumQuack T.Denot) (c : Code T.Denot) → Determines (Promised s (insert_of w.width s c))
  insert_determined s c = determined s (insert_of w.width s c)

  -- Remove in place determines them too.
  pub remove_determined : (s : PowerSumQuack T.Denot) (c : Code T.Denot) → Determines (Promised s (remove_of w.width s c))
  remove_determined s c = determined s (remove_of w.width s c)

  -- `insert_once` determines its answer.
  pub insert_once_determined : (κs : Lfts 1) (s : PowerSumQuack T.Denot) (c : Code T.Denot) → Determines (λ r. passing w p insert_once.Post κs (s, (c, tt)) r (s, (c, tt)))
  insert_once_determined κs s c = by_equation _

  -- `remove_once` determines its answer.
  pub remove_once_determined : (κs : Lfts 1) (s : PowerSumQuack T.Denot) (c : Code T.Denot) → Determines (λ r. passing w p remove_once.Post κs (s, (c, tt)) r (s, (c, tt)))
  remove_once_determined κs s c = by_equation _

module _ (p : Passed u16) (q : Passed u32) (κs : Lfts 2) (lent : MutBor (PowerSumQuack ℕ)) (c : Code ℕ) where
  -- Insert in place asks for nothing: what a generic call asks for, that values of the type fit in memory, is so at both widths.
  pub insert_asks : AtBoth (passing word16 p insert_call.Pre) (passing word32 q insert_call.Pre) (λ pre _. pre κs (lent, (c, tt)))
  insert_asks = ((λ a none. absurd (not-mem-nil none), lit< tt), (λ a none. absurd (not-mem-nil none), lit< tt))

  -- Nor does remove in place.
  pub remove_asks : AtBoth (passing word16 p remove_call.Pre) (passing word32 q remove_call.Pre) (λ pre _. pre κs (lent, (c, tt)))
  remove_asks = ((λ a none. absurd (not-mem-nil none), lit< tt), (λ a none. absurd (not-mem-nil none), lit< tt))

module _ (p : Passed u16) (q : Passed u32) {M : Type 1} {𝓤 : Ura M} (𝓛 : Logic 𝓤) (at_mem : Memory → SProp 𝓤) (run : Routine → Fun 𝓤) where
  -- At both widths insert in place promises what the rule of insert answers, asks for nothing, and nothing else stands in its clauses.
  pub insert_promises_alone :
      (insert.clauses u16 word16 p.word_code p.clone p.clone_code p.equal p.equal_code 𝓛 at_mem run ≡ promises_alone word16 p (insert_of width16) 𝓤)
      × (insert.clauses u32 word32 q.word_code q.clone q.clone_code q.equal q.equal_code 𝓛 at_mem run ≡ promises_alone word32 q (insert_of width32) 𝓤)
  insert_promises_alone = (
    insert_whole word16 p 𝓛 at_mem run (λ κs a none. absurd (not-mem-nil none)) (lit< tt),
    insert_whole word32 q 𝓛 at_mem run (λ κs a none. absurd (not-mem-nil none)) (lit< tt),
  )

  -- So does remove in place.
  pub remove_promises_alone :
      (remove.clauses u16 word16 p.word_code p.clone p.clone_code p.equal p.equal_code 𝓛 at_mem run ≡ promises_alone word16 p (remove_of width16) 𝓤)
      × (remove.clauses u32 word32 q.word_code q.clone q.clone_code q.equal q.equal_code 𝓛 at_mem run ≡ promises_alone word32 q (remove_of width32) 𝓤)
  remove_promises_alone = (
    remove_whole word16 p 𝓛 at_mem run (λ κs a none. absurd (not-mem-nil none)) (lit< tt),
    remove_whole word32 q 𝓛 at_mem run (λ κs a none. absurd (not-mem-nil none)) (lit< tt),
  )

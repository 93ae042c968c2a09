-- Each call of the reader determines its answer, and feeding the lists that it leaves: any two outcomes that a contract allows for one input are equal.
-- Assumes nothing.
use Prim.Native.Nat.{ℕ}
use mathlib.Core.Path.{◌≡◌, ◌∙◌, sym}
use mathlib.Core.List.{List}
use contract.Lifetimes.{Lfts}
use denote.Ref.{Bor}
use denote.MutBor.{MutBor}
use Rattle.std.specs.Prelude.{Result}
use Rattle.rules.specs.Determines.{Determines}
use Rattle.rules.proofs.Determined.{by_equation}
use Rattle.desk_reader.specs.declared.Reading.{Reading}
use Rattle.lent.specs.declared.refusal.Refusal.{Refusal}
use Rattle.desk_reader.proofs.start.Reads as start
use Rattle.desk_reader.proofs.feed.Reads as feed

-- `start` determines its answer.
pub start_determined : Determines (λ r. start.Post tt tt r tt)
start_determined = by_equation _

-- `feed` determines its answer and every number of the log and of the got codes.
pub feed_determined : (κs : Lfts 3) (r : Reading) (log got : MutBor (List ℕ)) (piece : Bor (List ℕ)) (log₁ got₁ : MutBor (List ℕ)) (piece₁ : Bor (List ℕ)) (log₂ got₂ : MutBor (List ℕ))
    (piece₂ : Bor (List ℕ)) (z₁ z₂ : Result Reading Refusal)
    → feed.Post κs (r, (log, (got, (piece, tt)))) z₁ (r, (log₁, (got₁, (piece₁, tt))))
    → feed.Post κs (r, (log, (got, (piece, tt)))) z₂ (r, (log₂, (got₂, (piece₂, tt))))
    → (z₁ ≡ z₂) × (log₁.now ≡ log₂.now) × (got₁.now ≡ got₂.now)
feed_determined κs r log got piece log₁ got₁ piece₁ log₂ got₂ piece₂ z₁ z₂ p q =
    (p.0 ∙ sym q.0, p.1.0 ∙ sym q.1.0, p.1.1 ∙ sym q.1.1)

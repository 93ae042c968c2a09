-- Both calls determine their answer and every byte of the buffer that they were lent: any two outcomes that a contract allows for one input are equal.
-- Assumes nothing.
use Prim.Native.Nat.{ℕ}
use mathlib.Core.Path.{◌≡◌, ◌∙◌, sym}
use mathlib.Core.List.{List}
use contract.Lifetimes.{Lfts}
use denote.Ref.{Bor}
use denote.MutBor.{MutBor}
use Rattle.std.specs.Prelude.{Result}
use Rattle.lent.specs.declared.refusal.Refusal.{Refusal}
use Rattle.desk_reader.specs.declared.Reading.{Reading}
use Rattle.desk_text.proofs.answer.finish.Reads as finish
use Rattle.desk_text.proofs.answer.answer.Reads as answer

-- `finish` determines its answer and every byte of the buffer.
pub finish_determined : (κs : Lfts 3) (r : Reading) (log got : Bor (List ℕ)) (out : MutBor (List ℕ)) (log₁ got₁ : Bor (List ℕ)) (out₁ : MutBor (List ℕ))
    (log₂ got₂ : Bor (List ℕ)) (out₂ : MutBor (List ℕ)) (n₁ n₂ : Result ℕ Refusal)
    → finish.Post κs (r, (log, (got, (out, tt)))) n₁ (r, (log₁, (got₁, (out₁, tt))))
    → finish.Post κs (r, (log, (got, (out, tt)))) n₂ (r, (log₂, (got₂, (out₂, tt)))) → (n₁ ≡ n₂) × (out₁.now ≡ out₂.now)
finish_determined κs r log got out log₁ got₁ out₁ log₂ got₂ out₂ n₁ n₂ p q = (p.0 ∙ sym q.0, p.1.0 ∙ sym q.1.0)

-- `answer` determines its answer and every byte of the buffer.
pub answer_determined : (κs : Lfts 2) (input : Bor (List ℕ)) (out : MutBor (List ℕ)) (input₁ : Bor (List ℕ)) (out₁ : MutBor (List ℕ)) (input₂ : Bor (List ℕ))
    (out₂ : MutBor (List ℕ)) (n₁ n₂ : Result ℕ Refusal)
    → answer.Post κs (input, (out, tt)) n₁ (input₁, (out₁, tt)) → answer.Post κs (input, (out, tt)) n₂ (input₂, (out₂, tt))
    → (n₁ ≡ n₂) × (out₁.now ≡ out₂.now)
answer_determined κs input out input₁ out₁ input₂ out₂ n₁ n₂ p q = (p.0 ∙ sym q.0, p.1.0 ∙ sym q.1.0)

-- Two wrong answers of each call, into a buffer of 20 bytes: the refusal as a number and not as text, and no byte written. And two to a surplus: the refusal
-- by 4, and a count without its minus sign.
-- Assumes nothing.
use Prim.Native.Nat.{ℕ, ◌≤◌}
use mathlib.Core.Path.{◌≡◌, refl, sym, ◌∙◌, ap, ap₂}
use mathlib.Core.List.{List, [], ◌∷◌, ◌++◌}
use lib.Dec.{lit≤}
use lib.ListN.{length, get_or, replicate}
use contract.Lifetimes.{Lfts}
use denote.Ref.{Bor}
use denote.MutBor.{MutBor}
use Rattle.rules.specs.Kind.{kind32}
use Rattle.rules.specs.Calls.{Outcome, given, written, fitting}
use Rattle.desk_rules.specs.Lines.{bytes_of}
use Rattle.desk_rules.specs.Text.{desk_answer}
use Rattle.rules.specs.Determines.{RefusesBoth, RefusesEither}
use Rattle.desk_rules.proofs.Desk.{examples}
use Rattle.rules.proofs.Determined.{differs}
use Rattle.std.specs.Prelude.{Result, Ok, Err}
use Rattle.std.specs.Result.{result_unwrap_or}
use Rattle.lent.specs.declared.refusal.Refusal.{Refusal}
use Rattle.lent.specs.declared.refusal.Refusal.TheVariants.{ThresholdOutOfRange, TooMany}
use Rattle.lent.specs.Refusals.{listed}
use Rattle.desk_reader.specs.declared.Reading.{Reading}
use Rattle.desk_reader.specs.Read.{Read}
use Rattle.desk_reader.proofs.Promise.{the_calls}
use Rattle.desk_text.proofs.Promise.{answered}
use Rattle.desk_text.proofs.answer.finish.Reads as finish
use Rattle.desk_text.proofs.answer.answer.Reads as answer

-- How many bytes are told, 0 where the call is refused.
abbrev many : Result ℕ Refusal → ℕ
many n = result_unwrap_or n 0

-- Where ten bytes have to be written, neither a refusal by 1 nor no byte is allowed.
ten_only : {promise : Result ℕ Refusal → Type 0} → ((n : Result ℕ Refusal) → promise n → n ≡ Ok 10) → RefusesBoth promise (Err ThresholdOutOfRange) (Ok 0)
ten_only ten =
    (λ p. differs many (Err ThresholdOutOfRange) refl (ten _ p), λ p. differs many (Ok 0) refl (ten _ p))

-- The answer to a threshold of 0.
module _ (κs : Lfts 2) (input : Bor (List ℕ)) (out : MutBor (List ℕ)) (input₁ : Bor (List ℕ)) (out₁ : MutBor (List ℕ)) (the_input : input.now ≡ bytes_of "threshold=0\n") (lent : out.now ≡ replicate 20 0) where
  -- What the contract of `answer` allows.
  abbrev Allowed : Result ℕ Refusal → Type 0
  Allowed n = answer.Post κs (input, (out, tt)) n (input₁, (out₁, tt))

  -- The answer is ten bytes long.
  ten_bytes : (n : Result ℕ Refusal) → Allowed n → n ≡ Ok 10
  ten_bytes n p =
      p.0
      ∙ ap₂ (λ (i o : List ℕ). listed (fitting (desk_answer kind32 i) (length o))) the_input lent
      ∙ ap (λ (text : List ℕ). listed (fitting text 20)) examples.1

  -- `answer` allows neither wrong answer.
  pub answer_wrong : RefusesBoth Allowed (Err ThresholdOutOfRange) (Ok 0)
  answer_wrong = ten_only ten_bytes

-- The answer to two got codes without a log line, into a buffer as long as it.
module _ (κs : Lfts 2) (input : Bor (List ℕ)) (out : MutBor (List ℕ)) (input₁ : Bor (List ℕ)) (the_input : input.now ≡ bytes_of "threshold=2\ngot=10\ngot=2\n")
    (lent : out.now ≡ replicate 60 0) where
  -- What the contract of `answer` allows.
  abbrev AllowedSurplus : Result ℕ Refusal → MutBor (List ℕ) → Type 0
  AllowedSurplus n out₁ = answer.Post κs (input, (out, tt)) n (input₁, (out₁, tt))

  -- What it comes to.
  surplus_told : fitting (desk_answer kind32 input.now) (length out.now)
      ≡ given (bytes_of "refusal=0\nthreshold=2\ncount=-2\nfound=2\nsurplus=10\nsurplus=2\n")
  surplus_told =
      ap₂ (λ (i o : List ℕ). fitting (desk_answer kind32 i) (length o)) the_input lent ∙ ap (λ (text : List ℕ). fitting text 60) examples.15

  -- The answer is sixty bytes long.
  sixty_bytes : (n : Result ℕ Refusal) (out₁ : MutBor (List ℕ)) → AllowedSurplus n out₁ → n ≡ Ok 60
  sixty_bytes n out₁ p = p.0 ∙ ap listed surplus_told

  -- They are these.
  sixty_are : (n : Result ℕ Refusal) (out₁ : MutBor (List ℕ)) → AllowedSurplus n out₁
      → out₁.now ≡ bytes_of "refusal=0\nthreshold=2\ncount=-2\nfound=2\nsurplus=10\nsurplus=2\n"
  sixty_are n out₁ p = p.1.0 ∙ ap₂ (λ (o : Outcome (List ℕ)) (l : List ℕ). written o l) surplus_told lent

  -- `answer` allows neither the refusal by 4 nor the count without its minus sign.
  pub surplus_wrong : RefusesEither AllowedSurplus (Err TooMany)
      (bytes_of "refusal=0\nthreshold=2\ncount=2\nfound=2\nsurplus=10\nsurplus=2\n" ++ (0 ∷ []))
  surplus_wrong = (
    λ out₁ p. differs many (Err TooMany) refl (sixty_bytes _ out₁ p),
    λ n out₁ e p. differs (λ (l : List ℕ). get_or l 28 0) _ refl (sym e ∙ sixty_are n out₁ p),
  )

-- The answer to no input.
module _ (κs : Lfts 3) (r : Reading) (log got : Bor (List ℕ)) (out : MutBor (List ℕ)) (log₁ got₁ : Bor (List ℕ)) (out₁ : MutBor (List ℕ)) (begun : Read the_calls [] r log.now got.now)
    (lent : out.now ≡ replicate 20 0) where
  -- What the contract of `finish` allows.
  abbrev AllowedAtEnd : Result ℕ Refusal → Type 0
  AllowedAtEnd n = finish.Post κs (r, (log, (got, (out, tt)))) n (r, (log₁, (got₁, (out₁, tt))))

  -- The buffer is long enough.
  room : length (desk_answer kind32 []) ≤ length out.now
  room = rw (examples.3, lent) (lit≤ tt)

  -- The answer is ten bytes long.
  ten_at_end : (n : Result ℕ Refusal) → AllowedAtEnd n → n ≡ Ok 10
  ten_at_end n p = (answered κs log got out log₁ got₁ out₁ begun p room).0 ∙ ap (λ (text : List ℕ). Ok (length text)) examples.3

  -- `finish` allows neither wrong answer.
  pub finish_wrong : RefusesBoth AllowedAtEnd (Err ThresholdOutOfRange) (Ok 0)
  finish_wrong = ten_only ten_at_end

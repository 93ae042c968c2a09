-- What the head of words tells of the sketch that they say.
-- The answers that want one of these facts cite them in a line each, since the line names the step of its own call.
-- Assumes nothing.
use Rattle.std.proofs.Common.{◌≡◌, ◌+◌, ◌≤◌, Bool, true, false, List, length, take, drop, Result, Ok, Err, sym, refl, ap, ◌∙◌, arith}
use Rattle.rules.specs.Sketch.{Last, nothing, code, WellFormed}
use Rattle.rules.specs.Calls.{unless, given}
use Rattle.rules.specs.Words.{head_words, words_fit, said_by}
use Rattle.rules.proofs.Words.{fit_parts}
use Rattle.lent.specs.declared.refusal.Refusal.{Refusal}
use Rattle.lent.specs.declared.refusal.Refusal.TheVariants.{NotWellFormed}
use Rattle.lent.specs.Refusals.{answered}
use Rattle.modint.specs.Width.{Width}
use Rattle.modint.proofs.Width.{nums_length}
use Rattle.exports.specs.declared.words.Head.{Head}
use Rattle.exports.specs.Heads.{last_of, word_of, head_parts, fitting}

module _ {W : Type 0} (w : Width W) (words : List W) where
  -- The head of words that fit has the sketch's parts, and as many words stand behind it as the threshold says.
  pub record Heads (h : Head W) : Type 0 where
    pub ok : words_fit w.kind (w.nums words) ≡ true
    pub well : WellFormed w.kind (said_by w.kind (w.nums words))
    pub enough : head_words w.kind + h.threshold ≤ length words
    pub most : h.threshold ≤ w.kind.greatest
    pub sums : take h.threshold (drop (head_words w.kind) (w.nums words)) ≡ (said_by w.kind (w.nums words)).sums
    pub threshold : h.threshold ≡ (said_by w.kind (w.nums words)).threshold
    pub count : h.count ≡ (said_by w.kind (w.nums words)).count
    pub last : last_of w h.last ≡ (said_by w.kind (w.nums words)).last

  -- The head, or the refusal, for words that fit or do not.
  abbrev for : Bool → Result (Head W) Refusal
  for fit = answered (head_parts w) (unless fit 12 (given (w.nums words)))

  -- The code of a word for one.
  back : (l : Last) → last_of w (word_of w l) ≡ l
  back nothing = refl
  back (code x) = ap code (w.num_of x)

  -- What an answer holds, or the other.
  abbrev held : Head W → Result (Head W) Refusal → Head W
  held h (Ok h') = h'
  held h (Err e) = h

  abbrev why : Result (Head W) Refusal → Refusal
  why (Ok h') = NotWellFormed
  why (Err e) = e

  module _ {r : Result (Head W) Refusal} (answer : r ≡ answered (head_parts w) (fitting w.kind (w.nums words))) where
    -- Where there is no head, the words do not fit, and that is the refusal.
    pub misfits : {e : Refusal} → r ≡ Err e → (words_fit w.kind (w.nums words) ≡ false) × (e ≡ NotWellFormed)
    misfits {e} is = by_test (words_fit w.kind (w.nums words)) (sym is ∙ answer)
      where
        by_test : (fit : Bool) → Err e ≡ for fit → (fit ≡ false) × (e ≡ NotWellFormed)
        by_test true t = let x : Err e ≡ Ok (head_parts w (w.nums words)) = t in cc
        by_test false t = (refl, ap why t)

    -- Where there is one, it has the parts of the sketch that the words say.
    pub heads : {h : Head W} → r ≡ Ok h → Heads h
    unfolding said_by
    heads {h} is =
        let found = by_test (words_fit w.kind (w.nums words)) (sym is ∙ answer) in
        let fit = fit_parts w.kind (w.nums words) found.0 in
        let t : h.threshold ≡ (said_by w.kind (w.nums words)).threshold = ap (λ (h : Head W). h.threshold) found.1 in
        record {
          ok = found.0;
          well = fit.well;
          enough = omega (arith, t, fit.enough, nums_length w words);
          most = omega (arith, t, fit.well.at_most);
          sums = rw t;
          threshold = t;
          count = ap (λ (h : Head W). h.count) found.1;
          last = ap (λ (h : Head W). last_of w h.last) found.1 ∙ back _;
        }
      where
        by_test : (fit : Bool) → Ok h ≡ for fit → (fit ≡ true) × (h ≡ head_parts w (w.nums words))
        by_test true t = (refl, ap (held h) t)
        by_test false t = let x : Ok h ≡ Err NotWellFormed = t in cc

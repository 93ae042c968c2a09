-- What stands before the sums in words that fit, as a struct. Definitions only.
-- Assumes nothing.
use Rattle.std.specs.Prelude.{ℕ, cond, ◌&&◌, Option, Some, None, List, get_or}
use Rattle.rules.specs.Kind.{Kind}
use Rattle.rules.specs.Calls.{Outcome, unless, given}
use Rattle.rules.specs.Sketch.{Last, nothing, code, last_fits}
use Rattle.rules.specs.Words.{count_in, last_in, last_shaped, last_said, words_fit}
use Rattle.modint.specs.Width.{Width}
use Rattle.exports.specs.declared.words.Head.{Head}

module _ {W : Type 0} (w : Width W) where
  -- A last code that may be there.
  abbrev pub last_of : Option W → Last
  last_of None = nothing
  last_of (Some x) = code (w.num x)

  -- The word of a last code that may be there.
  abbrev pub word_of : Last → Option W
  word_of nothing = None
  word_of (code x) = Some (w.of x)

  -- The last code that two words say, or none; and nothing where they do not say it in the one way.
  unfoldable pub said_last : ℕ → ℕ → Option (Option W)
  said_last has x = cond (last_shaped has x && last_fits w.kind (last_in has x)) (Some (word_of (last_in has x))) None

  -- What words that fit have before the sums.
  abbrev pub head_parts : List ℕ → Head W
  head_parts ws = record {
    threshold = get_or ws 0 0;
    count = count_in w.kind ws;
    last = word_of (last_said w.kind ws);
  }

  -- The parts of words that fit; words that do not have none.
  unfoldable pub head_in : List W → Option (Head W)
  head_in words = let ws = w.nums words in cond (words_fit w.kind ws) (Some (head_parts ws)) None

-- Words that fit; others are refused by 12.
abbrev pub fitting : Kind → List ℕ → Outcome (List ℕ)
fitting K ws = unless (words_fit K ws) 12 (given ws)

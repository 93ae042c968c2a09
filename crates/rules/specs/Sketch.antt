-- The sketch: its parts, when it is well formed, and what each call makes of it.
-- Assumes nothing.
use Rattle.std.specs.Prelude.{ℕ, suc, ◌+◌, ◌-◌, ◌%◌, ◌^◌, ◌<◌, ◌≤◌, min, ◌≡◌, Bool, true, cond, ◌&&◌, List, [], ◌∷◌, ◌++◌, map, leb, ltb, eqb, length, get_or, take, replicate}
use Rattle.numbers.specs.Table.{every}
use Rattle.newton.specs.Members.{AllBelow}
use Rattle.rules.specs.Kind.{Kind, counts}
use Rattle.rules.specs.Field.{residue, plus, difference, minus, negative}
use Rattle.rules.specs.Signed.{signed_count, below_zero}

-- The last code of a sketch: none, or a residue.
pub data Last : Type 0 where
  nothing : Last
  code : ℕ → Last

-- 1 for a last code, 0 for none; and the code, 0 for none.
abbrev pub has_code : Last → ℕ
has_code nothing = 0
has_code (code x) = 1

-- The last code, 0 for none.
abbrev pub code_or0 : Last → ℕ
code_or0 nothing = 0
code_or0 (code x) = x

-- A sketch has a threshold, as many sums, a count, and a last code or none.
pub record Sketch : Type 0 where
  pub threshold : ℕ
  pub sums : List ℕ
  pub count : ℕ
  pub last : Last

-- No sketch: threshold 0, no sums, count 0, no last code.
abbrev pub no_sketch : Sketch
no_sketch = record { threshold = 0; sums = []; count = 0; last = nothing }

-- ---- well-formedness

-- A threshold is in range from 1 to the kind's greatest.
abbrev pub in_range : Kind → ℕ → Bool
in_range K threshold = leb 1 threshold && leb threshold K.greatest

-- Place k, counted from 0, holds a residue below the threshold, and 0 from it on.
abbrev pub place_fits : Kind → ℕ → ℕ → ℕ → Bool
place_fits K threshold k s = cond (ltb k threshold) (ltb s K.modulus) (eqb s 0)

-- A last code, if there is one, is a residue.
abbrev pub last_fits : Kind → Last → Bool
last_fits K nothing = true
last_fits K (code x) = ltb x K.modulus

-- Well formed: the threshold is in range, the sums and any last code are below the prime, and unused places are 0.
unfoldable pub well_formed : Kind → ℕ → List ℕ → Last → Bool
well_formed K threshold places last = in_range K threshold && every (place_fits K threshold) 0 places && last_fits K last

-- The places of a sketch: its sums, and zeros up to the kind's greatest threshold.
abbrev pub placed : Kind → List ℕ → List ℕ
placed K sums = sums ++ replicate (K.greatest - length sums) 0

-- A sketch that no call refuses by 12, part by part.
pub record WellFormed (K : Kind) (s : Sketch) : Type 0 where
  pub at_least : 1 ≤ s.threshold
  pub at_most : s.threshold ≤ K.greatest
  pub as_many : length s.sums ≡ s.threshold
  pub sums_below : AllBelow K.modulus s.sums
  pub count_below : s.count < counts
  pub last_fits : last_fits K s.last ≡ true

-- ---- what each call makes of a sketch

-- Each number of a list changed by f, which is told the number's place, counted from k, and the number.
unfoldable pub each : (ℕ → ℕ → ℕ) → ℕ → List ℕ → List ℕ
each f k [] = []
each f k (s ∷ ss) = f k s ∷ each f (suc k) ss

-- A fresh sketch has sums 0, count 0, and no last code.
unfoldable pub fresh : ℕ → Sketch
fresh threshold = record { threshold = threshold; sums = replicate threshold 0; count = 0; last = nothing }

-- Insertion of a code with residue x: sum k grows by x^k, the count by 1, and x is the last code.
unfoldable pub insert : Kind → Sketch → ℕ → Sketch
insert K s c = record {
  threshold = s.threshold;
  sums = each (λ (k sum : ℕ). plus K sum (residue K c ^ k)) 1 s.sums;
  count = (s.count + 1) % counts;
  last = code (residue K c);
}

-- The last code is forgotten where it equals the residue x.
abbrev pub last_without : Last → ℕ → Last
last_without nothing x = nothing
last_without (code y) x = cond (eqb y x) nothing (code y)

-- Removal of a code with residue x: sum k falls by x^k, the count by 1, and the last code is forgotten where it equals x.
unfoldable pub remove : Kind → Sketch → ℕ → Sketch
remove K s c = record {
  threshold = s.threshold;
  sums = each (λ (k sum : ℕ). minus K sum (residue K c ^ k)) 1 s.sums;
  count = difference counts s.count 1;
  last = last_without s.last (residue K c);
}

-- Subtraction: the smaller threshold is kept and the further sums dropped; sums and counts are subtracted, and there is no last code.
unfoldable pub subtract : Kind → Sketch → Sketch → Sketch
subtract K s o = record {
  threshold = min s.threshold o.threshold;
  sums = each (λ (k sum : ℕ). minus K sum (get_or o.sums k 0)) 0 (take (min s.threshold o.threshold) s.sums);
  count = difference counts s.count o.count;
  last = nothing;
}

-- Negation: each sum modulo the prime and the count modulo 2^32 become their negatives, and there is no last code.
unfoldable pub negate : Kind → Sketch → Sketch
negate K s = record { threshold = s.threshold; sums = map (negative K) s.sums; count = difference counts 0 s.count; last = nothing }

-- How many are surplus: the size of the count where it is negative as a signed number, 0 where it is not.
abbrev pub surplus_in : Sketch → ℕ
surplus_in s = below_zero (signed_count s.count)

-- The sketch cut to its first m sums.
unfoldable pub cut : Sketch → ℕ → Sketch
cut s m = record { threshold = min s.threshold m; sums = take m s.sums; count = s.count; last = s.last }

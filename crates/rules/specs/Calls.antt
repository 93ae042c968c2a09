-- The calls: what each is given when nothing is refused, and the number of the refusal otherwise, in the order of the table of refusals.
-- Whether a sketch given is well formed is told by a Bool, since unused places are the struct's.
-- Assumes nothing.
use Rattle.std.specs.Prelude.{ℕ, min, Bool, cond, List, ◌++◌, leb, ltb, eqb, length, take, drop}
use Rattle.numbers.specs.Table.{every}
use Rattle.rules.specs.Kind.{Kind}
use Rattle.rules.specs.Sketch as sketch
use Rattle.rules.specs.Sketch.{Sketch, Last, nothing, code, no_sketch, in_range, surplus_in}
use Rattle.rules.specs.Decode as decoding
use Rattle.rules.specs.Packet.{packet, sums_at, sums_in, sums_of, sketch_in}

-- What a call comes to: the number of a refusal, or what it gives.
pub data Outcome (A : Type 0) : Type 0 where
  refused : ℕ → Outcome A
  given : A → Outcome A

-- The refusal n where a test fails, and otherwise what comes next.
abbrev pub unless : {A : Type 0} → Bool → ℕ → Outcome A → Outcome A
unless ok n next = cond ok next (refused n)

-- The number of the refusal, 0 for none.
abbrev pub refusal_of : {A : Type 0} → Outcome A → ℕ
refusal_of (refused n) = n
refusal_of (given a) = 0

-- How many a list given has; a refusal's number is 0.
abbrev pub length_of : Outcome (List ℕ) → ℕ
length_of (refused n) = 0
length_of (given l) = length l

-- What stands in a lent buffer: what is given goes to its front, later places are untouched, and so is the whole where the call is refused.
abbrev pub written : Outcome (List ℕ) → List ℕ → List ℕ
written (refused n) buffer = buffer
written (given l) buffer = l ++ drop (length l) buffer

-- The sketch that is given, or none.
abbrev pub sketch_or : Outcome Sketch → Sketch
sketch_or (refused n) = no_sketch
sketch_or (given s) = s

-- The sums of a sketch that is given.
abbrev pub sums_given : Outcome Sketch → Outcome (List ℕ)
sums_given (refused n) = refused n
sums_given (given s) = given s.sums

-- ---- sketches

-- Make: 1 where the threshold is 0 or above the greatest.
unfoldable pub make : Kind → ℕ → Outcome Sketch
make K threshold = unless (in_range K threshold) 1 (given (sketch.fresh threshold))

-- Insert: 12 where the sketch is not well formed.
unfoldable pub insert : Kind → Bool → Sketch → ℕ → Outcome Sketch
insert K ok s c = unless ok 12 (given (sketch.insert K s c))

-- Remove: 12.
unfoldable pub remove : Kind → Bool → Sketch → ℕ → Outcome Sketch
remove K ok s c = unless ok 12 (given (sketch.remove K s c))

-- Subtract in place: 12 for either sketch, then 2 where the thresholds differ.
unfoldable pub sub_assign : Kind → Bool → Sketch → Sketch → Outcome Sketch
sub_assign K ok s o = unless ok 12 (unless (eqb s.threshold o.threshold) 2 (given (sketch.subtract K s o)))

-- Subtract: 12 for either sketch.
unfoldable pub sub : Kind → Bool → Sketch → Sketch → Outcome Sketch
sub K ok s o = unless ok 12 (given (sketch.subtract K s o))

-- Negate: 12.
unfoldable pub negate : Kind → Bool → Sketch → Outcome Sketch
negate K ok s = unless ok 12 (given (sketch.negate K s))

-- ---- lists

-- Coefficients, for a lent buffer of so many places: 12, then 4 where the count is above the threshold, then 5 where the places are fewer than the count.
unfoldable pub coefficients : Kind → Bool → Sketch → ℕ → Outcome (List ℕ)
coefficients K ok s places =
    unless ok 12 (unless (leb s.count s.threshold) 4
    (unless (leb s.count places) 5 (given (decoding.coefficients K s.sums s.count))))

-- Evaluate: 11 where there is no coefficient, then 8 where one is the prime or more.
unfoldable pub evaluate : Kind → List ℕ → ℕ → Outcome ℕ
evaluate K cs c = unless (ltb 0 (length cs)) 11 (unless (every (λ (k a : ℕ). ltb a K.modulus) 0 cs) 8 (given (decoding.evaluate K cs c)))

-- Evaluate with one reduction of the whole sum: 11, then 4 where there are more coefficients than the greatest threshold, then what plain evaluation comes to.
unfoldable pub evaluate_once : Kind → List ℕ → ℕ → Outcome ℕ
evaluate_once K cs c = unless (ltb 0 (length cs)) 11 (unless (leb (length cs) K.greatest) 4 (evaluate K cs c))

-- Decode, for a lent buffer of so many places: 12, then 4, then 5 where the places are fewer than the log's entries, with the count 0 too.
unfoldable pub decode : Kind → Bool → Sketch → List ℕ → ℕ → Outcome (List ℕ)
decode K ok s log places = unless ok 12 (unless (leb s.count s.threshold) 4 (unless (leb (length log) places) 5 (given (decoding.decode K s log))))

-- Decode the surplus among got codes, for a lent buffer of so many places: 12, then 4 where the signed count is negative and its size is above the threshold,
-- then 5 where the places are fewer than the codes, with a count of 0 or more too.
unfoldable pub decode_surplus : Kind → Bool → Sketch → List ℕ → ℕ → Outcome (List ℕ)
decode_surplus K ok s got places =
    unless ok 12 (unless (leb (surplus_in s) s.threshold) 4 (unless (leb (length got) places) 5 (given (decoding.surplus K s got))))

-- ---- packets

-- A list for a lent buffer of so many places: 5 where the places are fewer.
abbrev pub fitting : List ℕ → ℕ → Outcome (List ℕ)
fitting l room = unless (leb (length l) room) 5 (given l)

-- The packet of a sketch with its first m sums, for a buffer of so many bytes: 3 where there is no last code, then 5.
abbrev pub packed : Kind → Sketch → Last → ℕ → ℕ → Outcome (List ℕ)
packed K s nothing m room = refused 3
packed K s (code x) m room = fitting (packet K s.count x (take m s.sums)) room

-- Write with the hint h, into a lent buffer of so many bytes: 12, then 3, then 5. The hint never changes the count.
unfoldable pub write_with_hint : Kind → Bool → Sketch → ℕ → ℕ → Outcome (List ℕ)
write_with_hint K ok s h room = unless ok 12 (packed K s s.last (min s.threshold h) room)

-- Write without a hint: every sum.
unfoldable pub write : Kind → Bool → Sketch → ℕ → Outcome (List ℕ)
write K ok s room = unless ok 12 (packed K s s.last s.threshold room)

-- Read: 6 below the bytes of the count and the last code, then 7 for no sum or more than the greatest threshold, then 8 where a sum is the prime or more.
unfoldable pub read : Kind → List ℕ → Outcome Sketch
read K bs =
    unless (leb (sums_at K) (length bs)) 6
    (unless (in_range K (sums_in K (length bs))) 7 (unless (every (λ (k s : ℕ). ltb s K.modulus) 0 (sums_of K bs)) 8 (given (sketch_in K bs))))

-- A sketch whose sums go to so many lent places: 5, after every other refusal, where the places are fewer.
abbrev pub within : Outcome Sketch → ℕ → Outcome Sketch
within (refused n) places = refused n
within (given s) places = unless (leb s.threshold places) 5 (given s)

-- Read, its sums to go to so many lent places: 6, then 7, then 8, then 5.
abbrev pub read_for : Kind → List ℕ → ℕ → Outcome Sketch
read_for K bs places = within (read K bs) places

-- A sketch as bytes, the lowest byte of a number first.
-- Assumes nothing.
use Rattle.std.specs.Prelude.{ℕ, zero, suc, ◌+◌, ◌-◌, ◌*◌, ◌/◌, ◌%◌, List, [], ◌∷◌, ◌++◌, length, take, drop}
use Rattle.rules.specs.Kind.{Kind, count_bytes}
use Rattle.rules.specs.Field.{residue}
use Rattle.rules.specs.Sketch.{Sketch, code}

-- A number in n bytes.
unfoldable pub bytes : ℕ → ℕ → List ℕ
bytes zero x = []
bytes (suc n) x = x % 256 ∷ bytes n (x / 256)

-- The number that bytes say.
unfoldable pub number : List ℕ → ℕ
number [] = 0
number (b ∷ bs) = b + 256 * number bs

-- Several numbers, w bytes each.
unfoldable pub all_bytes : ℕ → List ℕ → List ℕ
all_bytes w [] = []
all_bytes w (x ∷ xs) = bytes w x ++ all_bytes w xs

-- n numbers read from bytes, w bytes each.
unfoldable pub all_numbers : ℕ → ℕ → List ℕ → List ℕ
all_numbers w zero bs = []
all_numbers w (suc n) bs = number (take w bs) ∷ all_numbers w n (drop w bs)

-- Where the sums begin: behind the count and the last code.
abbrev pub sums_at : Kind → ℕ
sums_at K = count_bytes + K.code_bytes

-- How long a packet with m sums is.
abbrev pub packet_length : Kind → ℕ → ℕ
packet_length K m = sums_at K + m * K.code_bytes

-- The packet of a count, a last code and sums.
unfoldable pub packet : Kind → ℕ → ℕ → List ℕ → List ℕ
packet K count x sums = bytes count_bytes count ++ (bytes K.code_bytes x ++ all_bytes K.code_bytes sums)

-- How many sums so many bytes hold, rounded down.
abbrev pub sums_in : Kind → ℕ → ℕ
sums_in K size = (size - sums_at K) / K.code_bytes

-- The sums of a packet: the part from the first sum on, cut into numbers.
abbrev pub sums_of : Kind → List ℕ → List ℕ
sums_of K bs = all_numbers K.code_bytes (sums_in K (length bs)) (drop (sums_at K) bs)

-- The sketch that a packet says: as many sums as it holds, and the last code reduced.
unfoldable pub sketch_in : Kind → List ℕ → Sketch
sketch_in K bs = record {
  threshold = sums_in K (length bs);
  sums = sums_of K bs;
  count = number (take count_bytes bs);
  last = code (residue K (number (take K.code_bytes (drop count_bytes bs))));
}

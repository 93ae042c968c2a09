-- The cases from the bench, as one table: what is computed from the rules, beside what the requirements say.
-- Assumes nothing.
use Rattle.std.specs.Prelude.{ℕ, zero, suc, ◌-◌, Bool, true, false, cond, ◌&&◌, List, [], ◌∷◌, ◌++◌, map, eqb, ℤ, pos, negsuc, length, replicate}
use Rattle.numbers.specs.Power.{power_within, power_mod}
use Rattle.rules.specs.Kind.{Kind, kind16, kind32}
use Rattle.rules.specs.Field.{residue, plus, minus, times, power, multiplications_within, multiplications, inverse}
use Rattle.rules.specs.Signed.{signed_count}
use Rattle.rules.specs.Sketch.{Sketch, Last, nothing, code, fresh, insert, remove, negate, well_formed}
use Rattle.rules.specs.Calls as calls
use Rattle.rules.specs.Calls.{Outcome, refused, given, refusal_of, length_of, written, sketch_or}
use Rattle.rules.specs.Words.{said_by, words_of, signed_count_in}

-- A case: the numbers that the rules give, and the numbers that the requirements give.
pub record Case : Type 0 where
  pub computed : List ℕ
  pub said : List ℕ

-- The two lists of a case are equal.
abbrev pub same_list : List ℕ → List ℕ → Bool
same_list [] [] = true
same_list [] (y ∷ ys) = false
same_list (x ∷ xs) [] = false
same_list (x ∷ xs) (y ∷ ys) = eqb x y && same_list xs ys

-- Every case of a table holds.
abbrev pub all_hold : List Case → Bool
all_hold [] = true
all_hold (c ∷ cs) = same_list c.computed c.said && all_hold cs

-- The case of what is computed, beside what is said.
abbrev gives : List ℕ → List ℕ → Case
gives computed said = record { computed = computed; said = said }

-- P1, P2, P3, P4: residues, sums, differences and products, inverses, and powers with their multiplications.
unfoldable pub field_cases : List Case
unfolding power_mod power_within multiplications multiplications_within
field_cases =
    gives (map (residue kind32) (4294967290 ∷ 4294967291 ∷ 4294967295 ∷ [])) (4294967290 ∷ 0 ∷ 4 ∷ [])
    ∷ gives (plus kind32 4294967290 1 ∷ minus kind32 0 1 ∷ times kind32 4294967290 4294967290 ∷ []) (0 ∷ 4294967290 ∷ 1 ∷ [])
    ∷ gives (map (inverse kind32) (2 ∷ 3 ∷ 4 ∷ [])) (2147483646 ∷ 1431655764 ∷ 1073741823 ∷ [])
    ∷ gives (power kind32 2 10 ∷ map multiplications (10 ∷ 4294967289 ∷ 4294967295 ∷ [])) (1024 ∷ 4 ∷ 60 ∷ 62 ∷ [])
    ∷ []

-- ---- the sketch

-- The codes of a list inserted one after the other.
unfoldable pub inserts : Kind → Sketch → List ℕ → Sketch
inserts K s [] = s
inserts K s (c ∷ cs) = inserts K (insert K s c) cs

-- n, n - 1, .. 1.
unfoldable pub down_from : ℕ → List ℕ
down_from zero = []
down_from (suc n) = suc n ∷ down_from n

-- A last code as a list: none is empty.
abbrev last_list : Last → List ℕ
last_list nothing = []
last_list (code x) = x ∷ []

-- What a call gives: its refusal, and then the list.
abbrev listing : Outcome (List ℕ) → List ℕ
listing (refused n) = n ∷ []
listing (given l) = 0 ∷ l

-- What reading gives: its refusal, and then the threshold.
abbrev reading : Outcome Sketch → List ℕ
reading (refused n) = n ∷ []
reading (given s) = 0 ∷ s.threshold ∷ []

-- P5, P6, P7: sums, coefficients, and what is listed of a log.
unfoldable pub decode_cases : List Case
unfolding inserts
decode_cases =
    let both = inserts kind32 (fresh 3) (10 ∷ 12 ∷ []) in
    gives both.sums (22 ∷ 244 ∷ 2728 ∷ [])
    ∷ gives (listing (calls.coefficients kind32 true both 3)) (0 ∷ 4294967269 ∷ 120 ∷ [])
    ∷ gives (listing (calls.decode kind32 true both (1 ∷ 2 ∷ 10 ∷ 12 ∷ 10 ∷ []) 5)) (0 ∷ 10 ∷ 12 ∷ 10 ∷ [])
    ∷ gives (listing (calls.decode kind32 true (inserts kind32 (fresh 3) (10 ∷ 10 ∷ [])) (1 ∷ 10 ∷ 10 ∷ 10 ∷ []) 4)) (0 ∷ 10 ∷ 10 ∷ 10 ∷ [])
    ∷ []

-- P9, P10, P11: removal from a fresh sketch, a count of 0 with sums, and the last code after a removal.
unfoldable pub remove_cases : List Case
remove_cases =
    let below = remove kind32 (fresh 1) 1 in
    let apart = remove kind32 (insert kind32 (fresh 2) 1) 2 in
    let large = insert kind32 (fresh 2) 4294967295 in
    gives (below.count ∷ below.sums) (4294967295 ∷ 4294967290 ∷ [])
    ∷ gives (listing (calls.write kind32 true below 12)) (3 ∷ [])
    ∷ gives (listing (calls.decode kind32 true below [] 0)) (4 ∷ [])
    ∷ gives apart.sums (4294967290 ∷ 4294967288 ∷ [])
    ∷ gives (apart.count ∷ last_list apart.last) (0 ∷ 1 ∷ [])
    ∷ gives (listing (calls.decode kind32 true apart (1 ∷ 2 ∷ 3 ∷ []) 3)) (0 ∷ [])
    ∷ gives (remove kind32 large 4294967295).sums (0 ∷ 0 ∷ [])
    ∷ gives (last_list (remove kind32 large 4294967295).last) []
    ∷ gives (last_list (remove kind32 large 4).last) []
    ∷ []

-- P8, P12: a packet's bytes, and how many sums packets of some lengths hold.
unfoldable pub packet_cases : List Case
unfolding inserts
packet_cases =
    gives (listing (calls.write kind32 true (inserts kind32 (fresh 2) (1 ∷ 10 ∷ [])) 16))
    (0 ∷ 2 ∷ 0 ∷ 0 ∷ 0 ∷ 10 ∷ 0 ∷ 0 ∷ 0 ∷ 11 ∷ 0 ∷ 0 ∷ 0 ∷ 101 ∷ 0 ∷ 0 ∷ 0 ∷ [])
    ∷ gives (reading (calls.read kind32 (replicate 7 0))) (6 ∷ [])
    ∷ gives (reading (calls.read kind32 (replicate 8 0))) (7 ∷ [])
    ∷ gives (reading (calls.read kind32 (replicate 11 0))) (7 ∷ [])
    ∷ gives (reading (calls.read kind32 (replicate 140 0))) (7 ∷ [])
    ∷ gives (reading (calls.read kind32 (replicate 12 0))) (0 ∷ 1 ∷ [])
    ∷ gives (reading (calls.read kind32 (replicate 139 0))) (0 ∷ 32 ∷ [])
    ∷ []

-- The last case of the bench: the greatest count that decodes, and the greatest sum that is read.
unfoldable pub limit_cases : List Case
unfolding inserts down_from
limit_cases =
    gives (listing (calls.decode kind32 true (inserts kind32 (fresh 32) (down_from 32)) (33 ∷ down_from 32) 33)) (0 ∷ down_from 32)
    ∷ gives (listing (calls.decode kind32 true (inserts kind32 (fresh 32) (down_from 33)) [] 0)) (4 ∷ [])
    ∷ gives (reading (calls.read kind32 (replicate 8 0 ++ (250 ∷ 255 ∷ 255 ∷ 255 ∷ [])))) (0 ∷ 1 ∷ [])
    ∷ gives (reading (calls.read kind32 (replicate 8 0 ++ (251 ∷ 255 ∷ 255 ∷ 255 ∷ [])))) (8 ∷ [])
    ∷ []

-- What evaluating gives: its refusal, and then the value.
abbrev valuing : Outcome ℕ → List ℕ
valuing (refused n) = n ∷ []
valuing (given x) = 0 ∷ x ∷ []

-- Beside the bench's: the least input that each test refuses, and the greatest beside it that it does not.
unfoldable pub refusal_cases : List Case
unfolding inserts
refusal_cases =
    let both = inserts kind32 (fresh 3) (10 ∷ 12 ∷ []) in
    gives (reading (calls.make kind32 0)) (1 ∷ [])
    ∷ gives (reading (calls.make kind32 33)) (1 ∷ [])
    ∷ gives (reading (calls.make kind32 32)) (0 ∷ 32 ∷ [])
    ∷ gives (reading (calls.sub_assign kind32 true (fresh 1) (fresh 2))) (2 ∷ [])
    ∷ gives (reading (calls.sub_assign kind32 true (fresh 2) (fresh 1))) (2 ∷ [])
    ∷ gives (reading (calls.sub kind32 true (fresh 2) (fresh 1))) (0 ∷ 1 ∷ [])
    ∷ gives (listing (calls.coefficients kind32 true both 1)) (5 ∷ [])
    ∷ gives (listing (calls.coefficients kind32 true both 2)) (0 ∷ 4294967269 ∷ 120 ∷ [])
    ∷ gives (listing (calls.decode kind32 true both (1 ∷ 2 ∷ 10 ∷ []) 2)) (5 ∷ [])
    ∷ gives (listing (calls.write kind32 true both 19)) (5 ∷ [])
    ∷ gives (valuing (calls.evaluate kind32 [] 1)) (11 ∷ [])
    ∷ gives (valuing (calls.evaluate kind32 (4294967291 ∷ []) 1)) (8 ∷ [])
    ∷ gives (valuing (calls.evaluate kind32 (4294967290 ∷ []) 1)) (0 ∷ 0 ∷ [])
    ∷ gives (map (λ (sum : ℕ). cond (well_formed kind32 1 (sum ∷ []) nothing) 0 12) (4294967290 ∷ 4294967291 ∷ [])) (0 ∷ 12 ∷ [])
    ∷ []

-- What a call that makes a sketch hands back: its refusal, and then the sketch's threshold, count, number of sums, and last code.
abbrev handing : Outcome Sketch → List ℕ
handing o =
    let s = sketch_or o in
    refusal_of o ∷ s.threshold ∷ s.count ∷ length s.sums ∷ last_list s.last

-- What a call leaves with its caller: the number that it tells, and then the lent buffer.
abbrev leaving : Outcome (List ℕ) → List ℕ → List ℕ
leaving o buffer = length_of o ∷ written o buffer

-- What refused calls hand back: making and reading no sketch, and the others the lent buffer as it was, with the number 0. Beside each, the same of a call
-- that is not refused.
unfoldable pub handed_cases : List Case
unfolding inserts
handed_cases =
    let both = inserts kind32 (fresh 3) (10 ∷ 12 ∷ []) in
    let room : List ℕ = 91 ∷ 92 ∷ 93 ∷ 94 ∷ [] in
    gives (handing (calls.make kind32 0)) (1 ∷ 0 ∷ 0 ∷ 0 ∷ [])
    ∷ gives (handing (calls.make kind32 33)) (1 ∷ 0 ∷ 0 ∷ 0 ∷ [])
    ∷ gives (handing (calls.make kind32 32)) (0 ∷ 32 ∷ 0 ∷ 32 ∷ [])
    ∷ gives (handing (calls.read kind32 (replicate 7 1))) (6 ∷ 0 ∷ 0 ∷ 0 ∷ [])
    ∷ gives (handing (calls.read kind32 (replicate 11 1))) (7 ∷ 0 ∷ 0 ∷ 0 ∷ [])
    ∷ gives (handing (calls.read kind32 (replicate 12 255))) (8 ∷ 0 ∷ 0 ∷ 0 ∷ [])
    ∷ gives (handing (calls.read kind32 (replicate 12 1))) (0 ∷ 1 ∷ 16843009 ∷ 1 ∷ 16843009 ∷ [])
    ∷ gives (leaving (calls.coefficients kind32 true both 1) room) (0 ∷ room)
    ∷ gives (leaving (calls.coefficients kind32 true both 4) room) (2 ∷ 4294967269 ∷ 120 ∷ 93 ∷ 94 ∷ [])
    ∷ gives (leaving (calls.decode kind32 true both (9 ∷ 10 ∷ []) 1) room) (0 ∷ room)
    ∷ gives (leaving (calls.decode kind32 true both (9 ∷ 10 ∷ []) 4) room) (1 ∷ 10 ∷ 92 ∷ 93 ∷ 94 ∷ [])
    ∷ gives (leaving (calls.write kind32 true both 4) room) (0 ∷ room)
    ∷ []

-- ---- sixteen bits

-- Codes of sixteen bits: residues, sums, differences, products and inverses, and powers with their multiplications.
unfoldable pub narrow_field_cases : List Case
unfolding power_mod power_within multiplications multiplications_within
narrow_field_cases =
    gives (map (residue kind16) (65520 ∷ 65521 ∷ 65535 ∷ [])) (65520 ∷ 0 ∷ 14 ∷ [])
    ∷ gives (plus kind16 65520 1 ∷ minus kind16 0 1 ∷ times kind16 65520 65520 ∷ []) (0 ∷ 65520 ∷ 1 ∷ [])
    ∷ gives (map (inverse kind16) (2 ∷ 3 ∷ 4 ∷ [])) (32761 ∷ 43681 ∷ 49141 ∷ [])
    ∷ gives (power kind16 2 10 ∷ map multiplications (65519 ∷ 65535 ∷ [])) (1024 ∷ 29 ∷ 30 ∷ [])
    ∷ []

-- Sketches of sixteen bits: sums, coefficients, what is listed of a log, the last code after a removal, the greatest count that decodes, and one above.
unfoldable pub narrow_sketch_cases : List Case
unfolding inserts down_from
narrow_sketch_cases =
    let both = inserts kind16 (fresh 3) (10 ∷ 12 ∷ []) in
    let large = insert kind16 (fresh 2) 65535 in
    gives both.sums (22 ∷ 244 ∷ 2728 ∷ [])
    ∷ gives (listing (calls.coefficients kind16 true both 3)) (0 ∷ 65499 ∷ 120 ∷ [])
    ∷ gives (listing (calls.decode kind16 true both (1 ∷ 2 ∷ 10 ∷ 12 ∷ 10 ∷ []) 5)) (0 ∷ 10 ∷ 12 ∷ 10 ∷ [])
    ∷ gives large.sums (14 ∷ 196 ∷ [])
    ∷ gives (last_list (remove kind16 large 65535).last) []
    ∷ gives (last_list (remove kind16 large 14).last) []
    ∷ gives ((remove kind16 (fresh 1) 1).count ∷ (remove kind16 (fresh 1) 1).sums) (4294967295 ∷ 65520 ∷ [])
    ∷ gives (listing (calls.decode kind16 true (inserts kind16 (fresh 32) (down_from 32)) (33 ∷ down_from 32) 33)) (0 ∷ down_from 32)
    ∷ gives (listing (calls.decode kind16 true (inserts kind16 (fresh 32) (down_from 33)) [] 0)) (4 ∷ [])
    ∷ gives (map (λ (t : ℕ). refusal_of (calls.make kind16 t)) (0 ∷ 1 ∷ 32 ∷ 33 ∷ [])) (1 ∷ 0 ∷ 0 ∷ 1 ∷ [])
    ∷ gives (map (λ (sum : ℕ). cond (well_formed kind16 1 (sum ∷ []) nothing) 0 12) (65520 ∷ 65521 ∷ [])) (0 ∷ 12 ∷ [])
    ∷ []

-- Packets of sixteen bits: the bytes, and how many sums packets of some lengths hold.
unfoldable pub narrow_packet_cases : List Case
unfolding inserts
narrow_packet_cases =
    gives (listing (calls.write kind16 true (inserts kind16 (fresh 2) (1 ∷ 10 ∷ [])) 10)) (0 ∷ 2 ∷ 0 ∷ 0 ∷ 0 ∷ 10 ∷ 0 ∷ 11 ∷ 0 ∷ 101 ∷ 0 ∷ [])
    ∷ gives (listing (calls.write kind16 true (inserts kind16 (fresh 2) (1 ∷ 10 ∷ [])) 9)) (5 ∷ [])
    ∷ gives (reading (calls.read kind16 (replicate 5 0))) (6 ∷ [])
    ∷ gives (reading (calls.read kind16 (replicate 6 0))) (7 ∷ [])
    ∷ gives (reading (calls.read kind16 (replicate 7 0))) (7 ∷ [])
    ∷ gives (reading (calls.read kind16 (replicate 8 0))) (0 ∷ 1 ∷ [])
    ∷ gives (reading (calls.read kind16 (replicate 71 0))) (0 ∷ 32 ∷ [])
    ∷ gives (reading (calls.read kind16 (replicate 72 0))) (7 ∷ [])
    ∷ gives (reading (calls.read kind16 (replicate 6 0 ++ (240 ∷ 255 ∷ [])))) (0 ∷ 1 ∷ [])
    ∷ gives (reading (calls.read kind16 (replicate 6 0 ++ (241 ∷ 255 ∷ [])))) (8 ∷ [])
    ∷ gives (handing (calls.read kind16 (1 ∷ 2 ∷ 3 ∷ 4 ∷ 255 ∷ 255 ∷ 5 ∷ 6 ∷ 7 ∷ []))) (0 ∷ 1 ∷ 67305985 ∷ 1 ∷ 14 ∷ [])
    ∷ []

-- Values, plain and with one reduction: equal up to 32 coefficients, and the refusals of each in their order.
unfoldable pub once_cases : List Case
unfolding down_from
once_cases =
    gives (valuing (calls.evaluate_once kind16 (65499 ∷ 120 ∷ []) 1)) (0 ∷ 99 ∷ [])
    ∷ gives (valuing (calls.evaluate_once kind16 (65499 ∷ 120 ∷ []) 10)) (0 ∷ 0 ∷ [])
    ∷ gives (valuing (calls.evaluate_once kind16 (replicate 32 65520) 65520)) (valuing (calls.evaluate kind16 (replicate 32 65520) 65520))
    ∷ gives (valuing (calls.evaluate_once kind16 (down_from 32) 65535)) (valuing (calls.evaluate kind16 (down_from 32) 65535))
    ∷ gives (valuing (calls.evaluate_once kind16 [] 1)) (11 ∷ [])
    ∷ gives (valuing (calls.evaluate_once kind16 (replicate 33 65521) 1)) (4 ∷ [])
    ∷ gives (valuing (calls.evaluate_once kind16 (65521 ∷ []) 1)) (8 ∷ [])
    ∷ gives (valuing (calls.evaluate kind16 (replicate 33 0) 1)) (0 ∷ 1 ∷ [])
    ∷ []

-- A sketch in words, at each width: the threshold, the count in one word or in two, the lower first, the last code and the sums; and the sketch back.
unfoldable pub word_cases : List Case
word_cases =
    let some : Sketch = record { threshold = 2; sums = 5 ∷ 6 ∷ []; count = 196610; last = code 7 } in
    let none : Sketch = record { threshold = 2; sums = 5 ∷ 6 ∷ []; count = 196610; last = nothing } in
    gives (words_of kind32 some) (2 ∷ 196610 ∷ 1 ∷ 7 ∷ 5 ∷ 6 ∷ [])
    ∷ gives (words_of kind32 none) (2 ∷ 196610 ∷ 0 ∷ 0 ∷ 5 ∷ 6 ∷ [])
    ∷ gives (words_of kind16 some) (2 ∷ 2 ∷ 3 ∷ 1 ∷ 7 ∷ 5 ∷ 6 ∷ [])
    ∷ gives (words_of kind16 none) (2 ∷ 2 ∷ 3 ∷ 0 ∷ 0 ∷ 5 ∷ 6 ∷ [])
    ∷ gives ((said_by kind16 (2 ∷ 2 ∷ 3 ∷ 1 ∷ 7 ∷ 5 ∷ 6 ∷ 9 ∷ [])).count ∷ (said_by kind16 (2 ∷ 2 ∷ 3 ∷ 1 ∷ 7 ∷ 5 ∷ 6 ∷ 9 ∷ [])).sums) (196610 ∷ 5 ∷ 6 ∷ [])
    ∷ []

-- ---- surplus

-- A signed number as a list: 1 for a negative one, 0 for any other, and its size.
abbrev signed_list : ℤ → List ℕ
signed_list (pos n) = 0 ∷ n ∷ []
signed_list (negsuc n) = 1 ∷ suc n ∷ []

-- The codes of a list removed one after the other.
unfoldable pub removes : Kind → Sketch → List ℕ → Sketch
removes K s [] = s
removes K s (c ∷ cs) = removes K (remove K s c) cs

-- A sketch of one sum, 0, with a count.
abbrev counting : ℕ → Sketch
counting n = record { threshold = 1; sums = 0 ∷ []; count = n; last = nothing }

-- Counts as signed numbers, and the least and the greatest size of each that the threshold 1 allows.
unfoldable pub signed_cases : List Case
signed_cases =
    gives (signed_list (signed_count 0)) (0 ∷ 0 ∷ [])
    ∷ gives (signed_list (signed_count 2147483647)) (0 ∷ 2147483647 ∷ [])
    ∷ gives (signed_list (signed_count 2147483648)) (1 ∷ 2147483648 ∷ [])
    ∷ gives (signed_list (signed_count 4294967295)) (1 ∷ 1 ∷ [])
    ∷ gives (map (λ (n : ℕ). refusal_of (calls.decode_surplus kind32 true (counting n) [] 0)) (2147483647 ∷ 2147483648 ∷ 4294967294 ∷ 4294967295 ∷ []))
    (0 ∷ 4 ∷ 4 ∷ 0 ∷ [])
    ∷ gives (map (λ (n : ℕ). refusal_of (calls.decode kind32 true (counting n) [] 0)) (1 ∷ 2 ∷ 2147483647 ∷ 2147483648 ∷ 4294967295 ∷ []))
    (0 ∷ 4 ∷ 4 ∷ 4 ∷ 4 ∷ [])
    ∷ gives (signed_list (signed_count_in kind32 (1 ∷ 4294967295 ∷ 0 ∷ 0 ∷ [])) ++ signed_list (signed_count_in kind32 (1 ∷ 4294967295 ∷ 0 ∷ [])))
    (1 ∷ 1 ∷ 0 ∷ 0 ∷ [])
    ∷ gives (signed_list (signed_count_in kind16 (1 ∷ 65535 ∷ 65535 ∷ 0 ∷ 0 ∷ [])) ++ signed_list (signed_count_in kind16 (1 ∷ 0 ∷ 32768 ∷ 0 ∷ 0 ∷ [])))
    (1 ∷ 1 ∷ 1 ∷ 2147483648 ∷ [])
    ∷ gives (signed_list (signed_count_in kind16 (1 ∷ 65535 ∷ 65535 ∷ 0 ∷ []))) (0 ∷ 0 ∷ [])
    ∷ []

-- What a kind lists as surplus: removals from a fresh sketch, with repeats; nothing for a count of 0 with sums; its refusals in their order; as many as the
-- greatest threshold, and one more; and what negation makes of a sketch.
unfoldable pub surplus_cases : Kind → List Case
unfolding removes down_from
surplus_cases K =
    let both = removes K (fresh 3) (10 ∷ 12 ∷ []) in
    let apart = remove K (insert K (fresh 2) 1) 2 in
    let room : List ℕ = 91 ∷ 92 ∷ 93 ∷ 94 ∷ [] in
    gives (listing (calls.decode_surplus K true both (1 ∷ 10 ∷ 12 ∷ 10 ∷ []) 4)) (0 ∷ 10 ∷ 12 ∷ 10 ∷ [])
    ∷ gives (leaving (calls.decode_surplus K true both (1 ∷ 12 ∷ []) 4) room) (1 ∷ 12 ∷ 92 ∷ 93 ∷ 94 ∷ [])
    ∷ gives (leaving (calls.decode_surplus K true both (1 ∷ 12 ∷ []) 1) room) (0 ∷ room)
    ∷ gives (listing (calls.decode_surplus K true apart (1 ∷ 2 ∷ 3 ∷ []) 3)) (0 ∷ [])
    ∷ gives (listing (calls.decode_surplus K true apart (1 ∷ 2 ∷ 3 ∷ []) 2)) (5 ∷ [])
    ∷ gives (listing (calls.decode_surplus K true (inserts K (fresh 3) (10 ∷ 12 ∷ [])) (10 ∷ 12 ∷ []) 2)) (0 ∷ [])
    ∷ gives (listing (calls.decode_surplus K false (counting 2147483648) (1 ∷ []) 0)) (12 ∷ [])
    ∷ gives (listing (calls.decode_surplus K true (counting 2147483648) (1 ∷ []) 0)) (4 ∷ [])
    ∷ gives (listing (calls.decode_surplus K true (removes K (fresh 32) (down_from 32)) (33 ∷ down_from 32) 33)) (0 ∷ down_from 32)
    ∷ gives (listing (calls.decode_surplus K true (removes K (fresh 32) (down_from 33)) [] 0)) (4 ∷ [])
    ∷ gives (negate K (insert K (fresh 2) 3)).sums ((K.modulus - 3) ∷ (K.modulus - 9) ∷ [])
    ∷ gives ((negate K (insert K (fresh 2) 3)).count ∷ last_list (negate K (insert K (fresh 2) 3)).last) (4294967295 ∷ [])
    ∷ gives (handing (calls.negate K true (fresh 2))) (0 ∷ 2 ∷ 0 ∷ 2 ∷ [])
    ∷ gives (handing (calls.negate K false (fresh 2))) (12 ∷ 0 ∷ 0 ∷ 0 ∷ [])
    ∷ []

-- The whole table.
unfoldable pub cases : List Case
unfolding field_cases decode_cases remove_cases packet_cases limit_cases refusal_cases handed_cases narrow_field_cases narrow_sketch_cases narrow_packet_cases once_cases
    word_cases signed_cases surplus_cases
cases =
    field_cases ++ (decode_cases ++ (remove_cases ++ (packet_cases ++ (limit_cases ++ (refusal_cases ++ (handed_cases
    ++ (narrow_field_cases ++ (narrow_sketch_cases ++ (narrow_packet_cases ++ (once_cases ++ (word_cases ++ (signed_cases
    ++ (surplus_cases kind32 ++ surplus_cases kind16)))))))))))))

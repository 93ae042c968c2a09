-- The struct of the sketch beside the rules: what it stands for, and what each call answers, over any width of code. Definitions only.
-- Assumes nothing.
use Rattle.std.specs.Prelude.{ℕ, Bool, ◌&&◌, List, map, take, ℤ, Option, Some, None, Result, Ok, Err}
use Rattle.modint.specs.Width.{Width}
use Rattle.modint.specs.declared.Code.{Code}
use Rattle.modint.specs.declared.Residue.{Residue}
use Rattle.modint.specs.Answers.{val, wrap}
use Rattle.rules.specs.Signed.{signed_count}
use Rattle.rules.specs.Sketch as rules
use Rattle.rules.specs.Sketch.{Sketch, nothing, code, well_formed, placed}
use Rattle.rules.specs.Calls as calls
use Rattle.rules.specs.Calls.{Outcome, given, unless}
use Rattle.lent.specs.Refusals.{answered, changed}
use Rattle.lent.specs.declared.refusal.Refusal.{Refusal}
use Rattle.power_sum.specs.declared.power_sum.PowerSumQuack.{PowerSumQuack}

module _ {W : Type 0} (w : Width W) where
  -- ---- a struct and what it stands for

  -- The last code of a struct.
  abbrev pub last_of : Option (Residue W) → rules.Last
  last_of None = nothing
  last_of (Some x) = code (val w x)

  -- The struct's form of a last code.
  abbrev pub last_to : rules.Last → Option (Residue W)
  last_to nothing = None
  last_to (code x) = Some (wrap w x)

  -- The sketch that a struct stands for: its sums are the first places.
  abbrev pub view : PowerSumQuack W → Sketch
  view s = record { threshold = s.threshold; sums = take s.threshold (map (val w) s.sums); count = s.count; last = last_of s.last }

  -- The struct of a sketch: zeros beyond its sums.
  abbrev pub built : Sketch → PowerSumQuack W
  built s = record { threshold = s.threshold; sums = map (wrap w) (placed w.kind s.sums); count = s.count; last = last_to s.last }

  -- Whether a struct is well formed.
  abbrev pub well_formed_of : PowerSumQuack W → Bool
  well_formed_of s = well_formed w.kind s.threshold (map (val w) s.sums) (last_of s.last)

  -- ---- what each call answers

  -- Whether a struct is refused as not well formed.
  abbrev pub checked_of : PowerSumQuack W → Result (Unit {0}) Refusal
  checked_of s = changed (unless (well_formed_of s) 12 (given s))

  -- What a call that makes a sketch answers: the sketch, or the refusal.
  abbrev pub sketch_answer : Outcome Sketch → Result (PowerSumQuack W) Refusal
  sketch_answer = answered built

  -- Make: a fresh sketch.
  unfoldable pub new_of : ℕ → Result (PowerSumQuack W) Refusal
  new_of threshold = sketch_answer (calls.make w.kind threshold)

  -- Insert: the sketch with the code in it.
  unfoldable pub insert_of : PowerSumQuack W → Code W → Result (PowerSumQuack W) Refusal
  insert_of s c = sketch_answer (calls.insert w.kind (well_formed_of s) (view s) (w.num c.0))

  -- Remove: the sketch less the code.
  unfoldable pub remove_of : PowerSumQuack W → Code W → Result (PowerSumQuack W) Refusal
  remove_of s c = sketch_answer (calls.remove w.kind (well_formed_of s) (view s) (w.num c.0))

  -- Subtract in place: the first sketch less the second of the same threshold.
  unfoldable pub sub_assign_of : PowerSumQuack W → PowerSumQuack W → Result (PowerSumQuack W) Refusal
  sub_assign_of s o = sketch_answer (calls.sub_assign w.kind (well_formed_of s && well_formed_of o) (view s) (view o))

  -- Subtract: the first sketch less the second of any threshold.
  unfoldable pub sub_of : PowerSumQuack W → PowerSumQuack W → Result (PowerSumQuack W) Refusal
  sub_of s o = sketch_answer (calls.sub w.kind (well_formed_of s && well_formed_of o) (view s) (view o))

  -- The count read as a signed difference, of a struct that need not be well formed.
  abbrev pub signed_count_of : PowerSumQuack W → ℤ
  signed_count_of s = signed_count s.count

  -- Negate: the negated sketch.
  unfoldable pub negate_of : PowerSumQuack W → Result (PowerSumQuack W) Refusal
  negate_of s = sketch_answer (calls.negate w.kind (well_formed_of s) (view s))

  -- The coefficients, for a lent buffer of so many places.
  unfoldable pub coefficients_of : PowerSumQuack W → ℕ → Outcome (List ℕ)
  coefficients_of s places = calls.coefficients w.kind (well_formed_of s) (view s) places

  -- What a sketch lists of a log, for a lent buffer of so many places.
  unfoldable pub decode_of : PowerSumQuack W → List ℕ → ℕ → Outcome (List ℕ)
  decode_of s log places = calls.decode w.kind (well_formed_of s) (view s) log places

  -- What a sketch lists of got codes as surplus, for a lent buffer of so many places.
  unfoldable pub decode_surplus_of : PowerSumQuack W → List ℕ → ℕ → Outcome (List ℕ)
  decode_surplus_of s got places = calls.decode_surplus w.kind (well_formed_of s) (view s) got places

  -- Write, for a lent buffer of so many bytes.
  unfoldable pub write_of : PowerSumQuack W → ℕ → Outcome (List ℕ)
  write_of s room = calls.write w.kind (well_formed_of s) (view s) room

  -- Write with a hint, for a lent buffer of so many bytes.
  unfoldable pub write_with_hint_of : PowerSumQuack W → ℕ → ℕ → Outcome (List ℕ)
  write_with_hint_of s hint room = calls.write_with_hint w.kind (well_formed_of s) (view s) hint room

  -- Read: the sketch that a packet says.
  unfoldable pub read_of : List ℕ → Result (PowerSumQuack W) Refusal
  read_of bs = sketch_answer (calls.read w.kind bs)

-- ---- calls on a lent sketch

-- Such a call answers whether the call by value is refused, and by which refusal.
abbrev pub only_refusal : {S : Type 0} → Result S Refusal → Result (Unit {0}) Refusal
only_refusal (Ok after) = Ok tt
only_refusal (Err refusal) = Err refusal

-- It leaves the sketch of the call by value, or, where that is refused, the sketch as it was.
abbrev pub left_in : {S : Type 0} → S → Result S Refusal → S
left_in before (Ok after) = after
left_in before (Err refusal) = before

-- The sketches of the desk, which are of 32-bit codes, and what their calls come to. Definitions only.
-- Assumes nothing.
use Rattle.std.specs.Prelude.{ℕ, ℤ, Bool, List, Result}
use Rattle.rules.specs.Sketch.{Sketch, no_sketch}
use Rattle.rules.specs.Calls.{Outcome}
use Rattle.lent.specs.declared.refusal.Refusal.{Refusal}
use Rattle.modint.specs.Width.{width32}
use Rattle.modint.specs.declared.Code.{Code}
use Rattle.power_sum.specs.declared.power_sum.PowerSumQuack.{PowerSumQuack}
use Rattle.power_sum.specs.Answers as any

-- A sketch of 32-bit codes.
abbrev pub Quack : Type 0
Quack = PowerSumQuack ℕ

-- The sketch that a struct stands for.
abbrev pub view : Quack → Sketch
view = any.view width32

-- The struct of a sketch.
abbrev pub built : Sketch → Quack
built = any.built width32

-- The struct of no sketch.
abbrev pub empty : Quack
empty = built no_sketch

-- Whether a struct is well formed.
abbrev pub well_formed_of : Quack → Bool
well_formed_of = any.well_formed_of width32

-- What making a sketch answers.
abbrev pub new_of : ℕ → Result Quack Refusal
new_of = any.new_of width32

-- What inserting a code answers.
abbrev pub insert_of : Quack → Code ℕ → Result Quack Refusal
insert_of = any.insert_of width32

-- What subtracting in place answers.
abbrev pub sub_assign_of : Quack → Quack → Result Quack Refusal
sub_assign_of = any.sub_assign_of width32

-- The signed count.
abbrev pub signed_count_of : Quack → ℤ
signed_count_of = any.signed_count_of width32

-- What decoding a log comes to.
abbrev pub decode_of : Quack → List ℕ → ℕ → Outcome (List ℕ)
decode_of = any.decode_of width32

-- What decoding the surplus comes to.
abbrev pub decode_surplus_of : Quack → List ℕ → ℕ → Outcome (List ℕ)
decode_surplus_of = any.decode_surplus_of width32

-- The field's answers as structs. Definitions only.
-- Assumes nothing.
use Rattle.std.specs.Prelude.{ℕ}
use Rattle.rules.specs.Field.{power, multiplications}
use Rattle.modint.specs.Width.{Width}
use Rattle.modint.specs.declared.Residue.{Residue}
use Rattle.modint.specs.declared.Powered.{Powered}

module _ {W : Type 0} (w : Width W) where
  -- The number of a residue.
  abbrev pub val : Residue W → ℕ
  val r = w.num r.0

  -- The residue with this number.
  abbrev pub wrap : ℕ → Residue W
  wrap n = record { 0 = w.of n }

  -- The power of a number, with the multiplications made for it.
  abbrev pub powered : ℕ → ℕ → Powered W
  powered b e = record { value = wrap (power w.kind b e); multiplications = multiplications e }

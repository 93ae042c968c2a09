-- Four words side by side, for the functions that work on them. Definitions only.
-- Assumes nothing.
use Rattle.std.specs.Prelude.{ℕ, ◌+◌, List}
use Rattle.rules.specs.Field.{times}
use Rattle.rules.specs.Sums.{raised_at}
use Rattle.modint.specs.Width.{Width}
use Rattle.sums.specs.declared.powers.Four.{Four}

module _ {W : Type 0} (w : Width W) where
  -- Four sums from place k on, each up by its number.
  unfoldable pub four_at : List ℕ → ℕ → Four W → List ℕ
  four_at l k y =
      raised_at w.kind (raised_at w.kind (raised_at w.kind (raised_at w.kind l k (w.num y.v0)) (k + 1) (w.num y.v1)) (k + 2) (w.num y.v2)) (k + 3) (w.num y.v3)

  -- Each of four numbers times z.
  abbrev pub times_at : Four W → ℕ → Four W
  times_at y z = record {
    v0 = w.of (times w.kind (w.num y.v0) z);
    v1 = w.of (times w.kind (w.num y.v1) z);
    v2 = w.of (times w.kind (w.num y.v2) z);
    v3 = w.of (times w.kind (w.num y.v3) z);
  }

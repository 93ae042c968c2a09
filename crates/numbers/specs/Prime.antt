-- Primes: what one is, and the three that the kinds of sketch use.
-- Assumes nothing.
use Rattle.std.specs.Prelude.{ℕ, ◌<◌, ◌≡◌, ◌⊎◌}
use Rattle.std.specs.Int.{◌∣◌}

-- A prime is above one, and only 1 and itself divide it.
pub record IsPrime (p : ℕ) : Type 0 where
  pub above_one : 1 < p
  pub only : (d : ℕ) → d ∣ p → (d ≡ 1) ⊎ (d ≡ p)

-- The greatest prime of sixteen bits.
abbrev pub p16 : ℕ
p16 = 65521

-- The greatest prime of thirty-two bits.
abbrev pub p32 : ℕ
p32 = 4294967291

-- The greatest prime of sixty-four bits.
abbrev pub p64 : ℕ
p64 = 18446744073709551557

-- The primes of the three kinds of sketch: two by trial division, the third by Pocklington's test.
-- Assumes nothing.
use Prim.Native.Nat.{ℕ, ◌*◌, ◌<◌, ◌∣◌}
use native.Mathlib.Omega.{arith}
use lib.Dec.{lit<}
use Rattle.numbers.specs.Prime.{IsPrime, p16, p32, p64}
use Rattle.numbers.specs.Power.{power_within, power_mod}
use Rattle.numbers.proofs.Trial.{no_divisor, prime_by_trial}
use Rattle.numbers.proofs.Divisors.{prime_of_large_divisors, product_divides}
use Rattle.numbers.proofs.Pocklington.{pocklington, large_divisor}

-- The number p16 is a prime.
pub prime_16 : IsPrime p16
unfolding no_divisor
prime_16 = prime_by_trial p16 254 (lit< tt) (lit< tt) tt

-- The number p32 is a prime.
pub prime_32 : IsPrime p32
unfolding no_divisor
prime_32 = prime_by_trial p32 65534 (lit< tt) (lit< tt) tt

-- ---- the chain to the third: 15331 and 2131 divide 5594472617641 - 1, and 5594472617641 divides p64 - 1

prime_15331 : IsPrime 15331
unfolding no_divisor
prime_15331 = prime_by_trial 15331 123 (lit< tt) (lit< tt) tt

prime_2131 : IsPrime 2131
unfolding no_divisor
prime_2131 = prime_by_trial 2131 46 (lit< tt) (lit< tt) tt

prime_5594472617641 : IsPrime 5594472617641
unfolding power_mod power_within
prime_5594472617641 = prime_of_large_divisors 5594472617641 (lit< tt) large
  where
    large : (d : ℕ) → IsPrime d → d ∣ 5594472617641 → 5594472617641 < d * d
    large d D h =
        large_divisor (15331 * 2131) 5594472617641 d (lit< tt) D.above_one
        (product_divides 15331 2131 _ prime_15331 prime_2131 (λ e. omega arith)
        (pocklington 5594472617641 15331 364912440 2 3161697676777 prime_15331 tt tt tt d D h)
        (pocklington 5594472617641 2131 2625280440 2 1933328135809 prime_2131 tt tt tt d D h))

-- The number p64 is a prime.
pub prime_64 : IsPrime p64
unfolding power_mod power_within
prime_64 = prime_of_large_divisors p64 (lit< tt) large
  where
    large : (d : ℕ) → IsPrime d → d ∣ p64 → p64 < d * d
    large d D h =
        large_divisor 5594472617641 p64 d (lit< tt) D.above_one
        (pocklington p64 5594472617641 3297316 2 1898613474652435203 prime_5594472617641 tt tt tt d D h)

-- The words of the mathematics of primes. Definitions only.
pub mod Prime
pub mod Power
pub mod Table
pub mod Fold

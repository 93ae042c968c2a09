-- The mathematics of primes, a file for each matter; other crates cite them as `Rattle.numbers.proofs.NAME`.
pub mod Congruence
pub mod Euclid
pub mod Binomial
pub mod Fermat
pub mod Power
pub mod Inverse
pub mod Table
pub mod Trial
pub mod Divisors
pub mod Pocklington
pub mod Primes
pub mod Product
pub mod Fold

-- The mathematics of power sums and roots modulo a prime, a file for each matter; other crates cite them as `Rattle.newton.proofs.NAME`.
pub mod Newton
pub mod Roots
pub mod Permutation
pub mod Recurrence
pub mod Unique
pub mod Multiplicity

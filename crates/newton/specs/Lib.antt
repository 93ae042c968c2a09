-- The words of Newton's identities. Definitions only.
pub mod Members
pub mod PowerSum
pub mod Polynomial
pub mod Multiplicity

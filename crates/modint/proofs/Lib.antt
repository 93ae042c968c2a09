-- What the proofs over any width rest on.
pub mod Width
pub mod ByNumbers
pub mod Residues
pub mod Blocks
-- What is proved of the field's calls beside their contracts.
pub mod Determined
pub mod Wrong
pub mod Idle
pub mod SliceGuards

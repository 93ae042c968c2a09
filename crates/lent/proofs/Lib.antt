-- What the proofs of lent slices rest on, a file for each matter.
pub mod Refusals
pub mod Determined
pub mod Wrong
mod Bytes
mod Registers

-- What the proofs of the calls rest on, a file for each matter.
mod Clauses
mod Equal
mod Fronts
mod Heads
mod Stored
-- What is proved of the calls beside their contracts.
pub mod Blocks
pub mod Determined
pub mod Wrong
pub mod OneReductionGuards

-- What is proved of the values beside their contracts.
pub mod Blocks
pub mod Wrong
pub mod OneReductionGuards
mod Empty

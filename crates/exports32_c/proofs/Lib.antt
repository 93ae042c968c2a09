-- What is proved of the calls for C beside their contracts, a file for each matter.
mod Values
pub mod Determined
pub mod Wrong

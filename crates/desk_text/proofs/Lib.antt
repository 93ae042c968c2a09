-- What is proved of the desk's text beside the functions' contracts, a file for each matter.
pub mod Pushes
pub mod Digits
pub mod Decision
pub mod Meaning
pub mod Promise
pub mod Determined
pub mod Wrong

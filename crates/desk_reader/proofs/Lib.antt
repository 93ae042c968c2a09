-- What is proved of the reader beside the functions' contracts, a file for each matter.
pub mod Steps
pub mod Parse
pub mod Meaning
pub mod Promise
pub mod Determined

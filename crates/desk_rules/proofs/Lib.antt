-- What follows from the rules of the desk program, a file for each matter.
pub mod Desk
pub mod Text
pub mod Room
pub mod Reading
pub mod Missing
pub mod Codes
pub mod Castle
pub mod Overfull
pub mod Limits
pub mod Witness
pub mod SurplusWitness

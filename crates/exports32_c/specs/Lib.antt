-- The answers of calls as structs without a type parameter, which C has.
pub mod Answers

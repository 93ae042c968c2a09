-- The answers of calls that write a list, and the table of refusals.
pub mod Answers
pub mod Refusals

-- The answer of a reading, and what the loop over four sums at once makes of them.
pub mod Answers
pub mod Chains

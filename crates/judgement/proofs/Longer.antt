-- Clauses added at the end of a sheet: every step says what it said, and the answer is the same, or 10.
pub mod Costs
pub mod Steps
pub mod Answers
pub mod Bounds

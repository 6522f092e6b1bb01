-- Demand 3: what a match gives, and the statement. A reader who knows document 01 should read these two files.
pub mod Outcome
pub mod Demand3

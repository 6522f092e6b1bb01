-- What list looks for, and what it mends.
pub mod Loops
pub mod Mends

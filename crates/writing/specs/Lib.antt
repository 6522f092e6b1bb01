-- What is written at a place.
pub mod Writes
pub mod Keeps
pub mod Copies

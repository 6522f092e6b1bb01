-- Refusals 2 to 6 of a lent table.
pub mod Local
pub mod Bytes
pub mod Check

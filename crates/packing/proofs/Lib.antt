-- Laws of sums over words and of copies.
pub mod Sums
pub mod Overs

-- What the proofs of several functions use.
pub mod Lists
mod Moves
mod Looks
mod Pairs
mod Ends
mod Walks
pub mod Quiets

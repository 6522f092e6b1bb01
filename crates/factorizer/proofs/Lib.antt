-- What the proofs of several functions use.
pub mod Factors
mod Splits
mod Walks
pub mod Quiets
mod Plans

-- Two tables side by side, in lent words.
pub mod Adding
pub mod Differing
pub mod Pairing
pub mod Lookups
pub mod Sides
pub mod Showing
pub mod Commons

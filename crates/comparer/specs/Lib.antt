-- Two tables side by side, in lent words.
pub mod Pairs
pub mod Lists
pub mod Shows

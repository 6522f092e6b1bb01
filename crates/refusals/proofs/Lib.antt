-- Laws of the refusals.
pub mod Fours
pub mod Piles
pub mod Tells
pub mod Tables
pub mod Texts
pub mod Apart
pub mod Highs
pub mod Verdicts
pub mod Answers

pub mod Tables
pub mod Answers
pub mod Progress
pub mod Growth
pub mod Loops
pub mod Walks
pub mod Calms
pub mod Stills

-- What a call can be refused for before the first step.
pub mod Trying

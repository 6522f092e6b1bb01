-- Laws of the seven steps.
pub mod Fronts
pub mod Sizes
pub mod Asking
pub mod Turns
pub mod Runs

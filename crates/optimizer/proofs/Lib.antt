pub mod Finishing
pub mod Calls

pub mod Programs
pub mod SameResult

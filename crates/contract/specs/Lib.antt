-- What the contract of the whole call rules out.
pub mod Programs

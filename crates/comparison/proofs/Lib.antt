-- Two tables side by side (02, No. 1).
pub mod Rows
pub mod Empty
pub mod Most
pub mod Whole
pub mod Inside
pub mod Examples
pub mod Programs

-- Why a loop stayed a loop (02, No. 2).
pub mod Ties
pub mod Loops
pub mod Nests
pub mod First
pub mod Examples
pub mod Programs

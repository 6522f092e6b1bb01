-- Why a loop stayed a loop (02, No. 2).
pub mod Ends
pub mod Explain

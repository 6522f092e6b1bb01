-- Skip lists: what a reading leaves in the marks, what is lent, and what is answered.
pub mod Memory
pub mod Lends
pub mod Loops
pub mod Ways
pub mod Lists
pub mod Skips

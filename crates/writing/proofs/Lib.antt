-- Laws of writing, that step proofs use.
pub mod Runs
pub mod Puts
pub mod Trees
pub mod Copies
pub mod Pendings
pub mod Keeps

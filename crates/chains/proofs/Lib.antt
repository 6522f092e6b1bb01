-- Laws of chains and of runs, that step proofs use.
pub mod Trees
pub mod Closes
pub mod Runs
pub mod Walks
pub mod Nodes

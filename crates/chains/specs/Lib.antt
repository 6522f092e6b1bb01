-- Chains nested to the right, and runs of nodes with one child.
pub mod Chains
pub mod Runs

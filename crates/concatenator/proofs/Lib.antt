-- Laws of concatenation.
pub mod Concats
pub mod Nodes
pub mod Quiets

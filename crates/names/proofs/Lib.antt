-- Laws of names, that other crates' proofs cite.
pub mod Marks
pub mod Index
pub mod Finding

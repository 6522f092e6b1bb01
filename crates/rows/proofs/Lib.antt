-- Laws of rows, that step proofs use.
pub mod Laws
pub mod Cells
pub mod Fours
pub mod Views
pub mod Insides

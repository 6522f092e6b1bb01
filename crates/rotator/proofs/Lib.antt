-- Laws of rotation.
pub mod Rotations
pub mod Kepts
pub mod Quiets
pub mod Walks

-- Laws of skip lists.
pub mod Memories
pub mod Rules
pub mod Leaf
pub mod Looping
pub mod Settles
pub mod Rotation
pub mod Tables
pub mod Spelling
pub mod Ways
pub mod Words
pub mod Onward
pub mod Skipping
pub mod Quiets
pub mod Falls
pub mod Forks

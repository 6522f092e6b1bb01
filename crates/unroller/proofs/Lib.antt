-- Laws of unrolling.
pub mod Sizes
pub mod Repeats
pub mod Stores
pub mod Moves
pub mod Agains
pub mod Lays
pub mod Spreads
pub mod Nodes
pub mod Walks
pub mod Quiets
pub mod Climbs

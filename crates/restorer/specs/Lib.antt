-- What a search for a change of the stack remembers and says.
pub mod Search
pub mod Lends
pub mod Stacks
pub mod Walks
pub mod Restores

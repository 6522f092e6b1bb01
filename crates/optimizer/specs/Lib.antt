-- The whole call.
pub mod Entry

-- Rules found by name.
pub mod Names

-- A step on every rule of a table.
pub mod Passes

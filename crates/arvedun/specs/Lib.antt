-- The calls as a host sees them.
pub mod Host
pub mod Compare
pub mod Explain

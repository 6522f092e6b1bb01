-- Two tables side by side (02, No. 1).
pub mod Compare
pub mod Same
pub mod Shown

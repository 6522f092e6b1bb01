-- Laws of the definitions, and their examples.
pub mod Logic
pub mod Words
pub mod Packing
pub mod TopDown
pub mod Sizes
pub mod Readings
pub mod Leaves
pub mod Stacks
pub mod Notation
pub mod Examples
pub mod Slips

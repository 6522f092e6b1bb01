-- The seven steps in their order.
pub mod Chain

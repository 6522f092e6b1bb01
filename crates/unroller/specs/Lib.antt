-- What unrolling makes and how it is laid out.
pub mod Items
pub mod Copies
pub mod Climbs

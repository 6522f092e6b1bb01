-- Where a tree stands in rows, and what a row lookup finds.
pub mod Rows

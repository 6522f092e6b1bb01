-- A table's packed text by its words, and what a copy of a table asks for.
pub mod Packing

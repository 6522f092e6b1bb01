-- Document 01 as definitions, in its order. A reader who knows it should read these files from top to bottom.
pub mod Basic
pub mod Numbers
pub mod Tree
pub mod Rows
pub mod Text
pub mod Table
pub mod Reading
pub mod Lists
pub mod Stack
pub mod Steps
pub mod Refusals
pub mod Optimize

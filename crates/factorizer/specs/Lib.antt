-- Factor by node, what is found out at a Choice before it is written, and what is written for a tree.
pub mod Factors
pub mod Cases
pub mod Plans

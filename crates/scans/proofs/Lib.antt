-- What scans of a tree's rows use.
pub mod Laws

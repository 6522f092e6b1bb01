-- Laws of explanations: the marks while rules are read, what a name finds, how a reading goes on; the rows of a tree that step 1 changes, the nodes that rows are; the whole answer.
pub mod Marks
pub mod Places
pub mod Opens
pub mod Arms
pub mod Named
pub mod Walks
pub mod Scans
pub mod Nodes
pub mod Parts
pub mod Rowed
pub mod Wholes

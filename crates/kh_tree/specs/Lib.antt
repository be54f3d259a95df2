pub mod Node
pub mod Nodes
pub mod Writes
pub mod Entries

pub mod Layers
mod Ends
mod Between
mod Counting
mod Following

pub mod Paths
mod Reading
mod Trees
pub mod Fronts
mod Written
mod Next
mod Root
mod Calls

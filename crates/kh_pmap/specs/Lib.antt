pub mod Entries
pub mod Keyed

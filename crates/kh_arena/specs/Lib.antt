pub mod Sizes
pub mod Spots
pub mod Ownership
pub mod Listed

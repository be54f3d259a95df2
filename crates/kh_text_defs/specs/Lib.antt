pub mod Atoms
pub mod Blanks
pub mod Faults
pub mod Shown
pub mod Spelled
pub mod Tokens

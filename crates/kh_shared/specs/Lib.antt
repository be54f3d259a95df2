pub mod Mark
pub mod Ownership
pub mod formers

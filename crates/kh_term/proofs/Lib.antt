-- The lemmas that the crates above cite.
pub use Rattle.kh_term.proofs.Spelling.{one_spelling}
pub use Rattle.kh_term.proofs.Same.{same, whole_is}
pub mod Bounds
mod Examples
pub mod InTurn
pub mod Integers
pub mod Layers
pub mod Lengths
pub mod MapRead
mod NamesRead
pub mod OneTree
pub mod PathLemmas
pub mod Places
pub mod ReadBack
pub mod Rising
pub mod Same
mod Spelling
pub mod Tags
mod Views

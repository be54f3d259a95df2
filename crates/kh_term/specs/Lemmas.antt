-- Lemmas on the definitions that the laws of the comparisons cite, which a type's laws can't take from the proofs.
pub mod Alike
pub mod Fits
pub mod Induction
pub mod Keys
pub mod Layers
pub mod Orders
pub mod Total

mod Splits
mod Judged
mod Marks
mod Names
mod Orders
mod Walks
mod Fronts
mod Below
pub mod Prepares
mod LawLemmas
mod ExactLaw

-- For the crates above.
pub use Rattle.kh_pack.proofs.Place.{stands_again, none_stands}
mod Integers
mod Parts
mod Loops
mod Steps
mod Numbers
mod FieldsRead
mod TermsRead
mod TermsAgain
mod Place

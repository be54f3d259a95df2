-- The lemmas that the crates above cite.
pub use Rattle.kh_bif_base.proofs.Answering.{value_answers, raise_answers, value_held, reason_held}
pub mod Answering
pub mod Seen

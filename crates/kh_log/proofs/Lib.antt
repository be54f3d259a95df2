-- For the crates above.
pub use Rattle.kh_log.proofs.Records.{content_of-short}
pub use Rattle.kh_log.proofs.Opening.{nothing_ends, settled}
pub use Rattle.kh_log.proofs.Walk.{told_later}
mod Records
mod Append
mod Writes
mod Opening
mod Headers
mod Walk

-- For the crates above.
pub use Rattle.kh_store.proofs.Stands.{some_of, stands_recovers, stands_stay}
pub use Rattle.kh_store.proofs.Open.{told_back, of_told, files_there}
pub use Rattle.kh_store.proofs.Recovery.{recovery_one}
mod Putting
mod Puts
mod Deciding
mod Recovery
mod Replaying
mod Safe
mod Open
mod Stands
mod Executing

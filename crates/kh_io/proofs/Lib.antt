-- For the crates above.
pub use Rattle.kh_io.proofs.Framing.{no_calls, one_call, calls_both, caused, not_caused, caused_later, cause_map, streams_same, streams_both, files_same, files_both, others_both, images_stay, started, goes_on, both, weakened, asks_none, asks_one, of_earlier, asks_both, asks_write, writes_weakened, writes_both, may_write_start}
pub use Rattle.kh_io.proofs.Staying.{stays_both}
pub use Rattle.kh_io.proofs.Telling.{told_before, told_map, told_same, told_both, kept_same, kept_both, extends_both}
mod Calls
mod Lists
mod Framing
mod Telling
mod Staying
mod Images
mod Recordings
mod Replays
mod Steps

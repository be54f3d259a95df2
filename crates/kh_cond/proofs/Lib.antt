-- The lemmas that the crates above cite.
pub use Rattle.kh_cond.proofs.Prepared.{prepared}
mod Complete
mod ComponentSpells
mod CondInduction
mod CondLayers
mod Finding
mod Known
mod LawLemmas
mod MatchLayers
mod PatternLaws
mod PatternReads
pub mod Prepared
mod ReadLayers
mod Smaller
mod Sound
mod Targets
mod WatchLaws
mod WatchSmaller
mod Watches
mod WildLaws

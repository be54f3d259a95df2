mod Cells
pub mod Growth
mod Loads
mod Measures
mod Orders
mod Runs
mod Settling
mod Seen
mod Smaller
mod Stores
pub use Rattle.kh_heap.proofs.Growth.{Grew-refl, Grew-append, Grew-trans, length-grew, Holds-grew, term_at-grew, Stands-grew, HoldsAll-grew, terms_at-grew, HoldsPairs-grew, pairs_at-grew}

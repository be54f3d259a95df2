-- The definitions of loaded code.
pub mod Capped
pub mod Indexes
pub mod Laws
pub mod Limits
pub mod Loading
pub mod Totals

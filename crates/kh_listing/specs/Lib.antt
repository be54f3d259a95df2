pub mod Drafts
pub mod Faults
pub mod Forms
pub mod Laws
pub mod Made
pub mod Outcome
pub mod Places
pub mod Sets

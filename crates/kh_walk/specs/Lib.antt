pub mod Takes
pub mod Prepared
pub mod Found
pub mod Laws
pub mod Rows
pub mod Walked
pub mod Front

pub mod Engine
pub mod Plain
pub mod Search

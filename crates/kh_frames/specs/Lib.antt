pub mod State
pub mod Frame
pub mod Rules
pub mod Valid
pub mod Answers
pub mod Renamed
pub mod Laws
pub mod Stored

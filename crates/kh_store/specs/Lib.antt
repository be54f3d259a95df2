pub mod Tree
pub mod Machine
pub mod Command
pub mod State
pub mod Recovery
pub mod Store
pub mod Opening

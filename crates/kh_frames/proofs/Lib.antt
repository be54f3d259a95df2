mod Reversed
mod Marks
mod Laying
pub mod Ends
pub mod Blind

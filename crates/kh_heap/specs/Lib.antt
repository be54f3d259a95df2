pub mod Parts
pub mod Heap
pub mod View
pub mod Cells

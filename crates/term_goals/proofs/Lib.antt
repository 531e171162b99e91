pub mod Steps
pub mod Weights
pub mod Summing
pub mod Leaves
pub mod Growing
pub mod Cells
pub mod Operands

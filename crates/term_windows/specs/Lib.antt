pub mod Overlaps
pub mod Tasks
pub mod Windows

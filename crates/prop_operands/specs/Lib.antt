pub mod Kept
pub mod Questions

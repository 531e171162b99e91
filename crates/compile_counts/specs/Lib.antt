pub mod Walked
pub mod Entering
pub mod Counted

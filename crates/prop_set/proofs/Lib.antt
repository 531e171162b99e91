pub mod Together
pub mod Deciding

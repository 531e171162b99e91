pub mod Heads
pub mod Reading
pub mod Expressions
pub mod Phrases

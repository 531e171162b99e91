pub mod Rules
pub mod Heard
pub mod Choices
pub mod Finding
pub mod Counters
pub mod Picks
pub mod Known

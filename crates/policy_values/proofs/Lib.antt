mod Sized
mod Numbered
mod Found
pub mod Seen
mod Loops

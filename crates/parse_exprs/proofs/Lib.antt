pub mod Ways
pub mod Turns
pub mod Faults
pub mod Plain
mod Nesting
pub mod Grouped

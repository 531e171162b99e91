pub mod Sorting
pub mod Ways
pub mod Texts
pub mod Loops

pub mod Roots
pub mod Arrays
pub mod Present

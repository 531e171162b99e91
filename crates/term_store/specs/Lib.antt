pub mod Stores
pub mod Additions
pub mod Atoms

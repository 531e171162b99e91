pub mod Crowds
pub mod Kinds

pub mod Profiles
pub mod Kinds

pub mod Levels
pub mod Tables
pub mod Stages
pub mod Sizes
pub mod Layout
pub mod Tree
pub mod Samples
pub mod Domains

pub mod Equal
pub mod Listing
pub mod Pairs

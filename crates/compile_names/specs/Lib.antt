pub mod Plans
pub mod Kept
pub mod Grouped
pub mod Places
pub mod Variables
pub mod Listing
pub mod Tables

pub mod Shown
pub mod Sums
pub mod Made
pub mod Ascending
pub mod Kept
pub mod Within
pub mod Sights

pub mod Counting
pub mod Crowding
pub mod Tight
pub mod Times
pub mod Truths
pub mod Shrinking

pub mod Lists
pub mod Points
pub mod Worth
pub mod Weights
pub mod Goals
pub mod Lawful
pub mod Sizes
pub mod Reasons

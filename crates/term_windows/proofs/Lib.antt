pub mod Steps
pub mod Crowding
pub mod Fitting
pub mod Slices
pub mod TaskSlices
pub mod Overlapping

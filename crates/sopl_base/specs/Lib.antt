pub mod Better
pub mod Extremes

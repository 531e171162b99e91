pub mod Passing
pub mod Bounds
pub mod Conditions
pub mod Laws

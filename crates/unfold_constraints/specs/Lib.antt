pub mod Bindings
pub mod Shown
pub mod Stepping

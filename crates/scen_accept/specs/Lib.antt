pub mod Faults
pub mod Stated
pub mod Shown
pub mod Laws

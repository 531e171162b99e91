pub mod Earliest
pub mod Entered
pub mod Known
pub mod Depths
pub mod Outcome

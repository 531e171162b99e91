pub mod Passed
pub mod Copied
pub mod Binding
pub mod Entering
pub mod Walking
pub mod Loops
pub mod Conditions
mod Capped
mod Counting
mod Placed

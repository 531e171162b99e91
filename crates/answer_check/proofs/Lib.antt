pub mod Nodes
pub mod Claiming
pub mod Replying
pub mod Ending
pub mod Written

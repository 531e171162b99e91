pub mod Things
pub mod Built
pub mod Seen
pub mod Operands
pub mod Tasks

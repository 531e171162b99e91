pub mod Best
pub mod Seen
pub mod WorkedOptima

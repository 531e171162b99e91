pub mod Front
pub mod Reads
pub mod Shown
pub mod TextAnswers

pub mod Nests
pub mod ReaderAnswers
pub mod Tasks

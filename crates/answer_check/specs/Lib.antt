pub mod CheckData
pub mod Claims
pub mod CheckReplies
pub mod Verdicts
pub mod CheckLaws

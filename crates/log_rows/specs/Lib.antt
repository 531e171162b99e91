pub mod Rows
pub mod Made
pub mod Accepted
pub mod LogLaws
pub mod Lines
pub mod Ranges
pub mod LogText

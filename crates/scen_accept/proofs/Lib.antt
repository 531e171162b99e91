pub mod Texts
pub mod NamesFormed
pub mod Rejected

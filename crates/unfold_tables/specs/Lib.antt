pub mod Tables
pub mod Listed
pub mod Starts
pub mod Walks
pub mod Changing

-- For the contracts of private functions alone: nothing is to be believed here
pub mod Listed
pub mod Posed
pub mod Adding
pub mod Begun
pub mod Repeats

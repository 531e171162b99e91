pub mod Pieces
pub mod Shows
pub mod Plain
pub mod Steps
pub mod Told

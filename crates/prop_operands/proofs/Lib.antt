pub mod Keeping
pub mod Seeing
pub mod Mentioning
pub mod Asking

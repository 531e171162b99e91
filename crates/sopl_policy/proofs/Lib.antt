mod Laid
pub mod Keeping

pub mod Fixed
pub mod Scenes
pub mod Works

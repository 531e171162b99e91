pub mod Growing
pub mod Resting
pub mod ProgramResting
pub mod Counting
pub mod Posing
pub mod GoingBack

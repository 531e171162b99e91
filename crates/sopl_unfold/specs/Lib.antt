pub mod Shown
pub mod GroundProblem

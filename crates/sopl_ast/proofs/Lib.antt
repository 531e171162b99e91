pub mod ConstraintTrees
pub mod Lighter
pub mod InitWeights

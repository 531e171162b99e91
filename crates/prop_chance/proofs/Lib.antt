pub mod CellSets
pub mod Reached
pub mod Conditions
pub mod Setting
pub mod Outdating
pub mod KeptWeights
pub mod Turned
pub mod Constraints

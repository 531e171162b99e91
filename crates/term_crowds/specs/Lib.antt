pub mod Crowds
pub mod Laws
pub mod WorkedCrowds
pub mod ShrinkingLaws
pub mod Shrinking

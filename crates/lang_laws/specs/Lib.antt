pub mod Laws
pub mod WorkedProblems
pub mod WorkedRefusals
pub mod WorkedTexts
pub mod WorkedValues

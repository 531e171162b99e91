pub mod WorkedWays
pub mod Rising

pub mod Objectives
pub mod Defined
pub mod KeptParts
pub mod KeptEnds
pub mod Worst
pub mod Scenarios

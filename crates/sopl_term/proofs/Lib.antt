pub mod CellTerms
pub mod CellNodes
pub mod Keeping
pub mod Hards
pub mod Chances
pub mod Finishing
pub mod Nearness
pub mod Lists

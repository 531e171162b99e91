pub mod Walking
pub mod Filling
pub mod Parts
pub mod Indices
pub mod DeclaringAgreement
pub mod Values

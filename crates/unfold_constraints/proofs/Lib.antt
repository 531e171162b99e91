pub mod Parts
pub mod Copies
pub mod Answered
pub mod Found
pub mod SteppingAgreement
pub mod Entering

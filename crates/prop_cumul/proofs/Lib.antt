pub mod Slots
pub mod Making
pub mod Asking
pub mod Fitted

pub mod Sharing
pub mod Stepping
pub mod Making
pub mod Asking
pub mod Alone
pub mod Resting
pub mod Fitted

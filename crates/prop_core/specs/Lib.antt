pub mod Findings
pub mod Rests
pub mod Members
pub mod Sweeps
pub mod Watches
pub mod Waking
pub mod Places
-- For proofs alone: nothing is to be believed here
pub mod Alike

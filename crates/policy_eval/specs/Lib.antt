pub mod Reports
pub mod Shown
-- For proofs alone: nothing is to be believed here
pub mod Tried
pub mod Valued

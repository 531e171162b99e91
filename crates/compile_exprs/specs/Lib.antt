pub mod Over
-- For proofs alone: nothing is to be believed here
pub mod Made

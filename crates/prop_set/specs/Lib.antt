pub mod Kinds
-- For proofs alone: nothing is to be believed here
pub mod Agreeing

pub mod Turns
pub mod Balances
pub mod Maxima
pub mod KeptSums
pub mod Kinds
-- For proofs alone: nothing is to be believed here
pub mod Deciding

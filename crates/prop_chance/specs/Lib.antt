pub mod UpToDate
pub mod KeptWeights
pub mod KeptTurns
pub mod Chances
-- For proofs alone: nothing is to be believed here
pub mod Deciding

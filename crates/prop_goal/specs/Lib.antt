pub mod Cells
pub mod KeptParts
pub mod KeptEnds
pub mod KeptWorst
pub mod Goals
-- For proofs alone: nothing is to be believed here
pub mod Deciding

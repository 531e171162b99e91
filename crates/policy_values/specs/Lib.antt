pub mod Labels
pub mod Played
-- For proofs alone: nothing is to be believed here
pub mod Safe
pub mod Listing

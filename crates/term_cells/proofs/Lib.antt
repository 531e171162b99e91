pub mod Inserting
pub mod Orders
pub mod Putting
pub mod Chains
pub mod Walking

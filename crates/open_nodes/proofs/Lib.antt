pub mod Places
mod Numbers
mod Parts
pub mod Walking
pub mod Remaking
pub mod GoingOn
pub mod Going
pub mod Arriving
pub mod Joining

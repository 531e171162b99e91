pub mod Planned
mod Noting
mod Ordering
mod Singles
mod Columns
pub mod Grouping
pub mod TreePlaces
mod Listing
mod Labels
mod Planning
mod FirstScalar
mod There

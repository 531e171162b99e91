pub mod Growing
mod CellDomains
mod Cells
mod Copies
mod Keeping
mod Listing
pub mod Naming

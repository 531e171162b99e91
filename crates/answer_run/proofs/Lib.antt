mod FoundRows
mod Parts
mod Asked
mod Numbers
pub mod WholeText
pub mod Statuses
pub mod Reading
pub mod Calls
mod LogBegins
mod Seconds

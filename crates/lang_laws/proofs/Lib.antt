pub mod Independence
pub mod Integers
pub mod ScenarioLaws
pub mod Ascending
mod Times
pub mod Holding
mod Satisfied
pub mod Distinct
pub mod Shared
pub mod Limits

pub mod Parts
pub mod Totals
pub mod Runs
pub mod Building
pub mod LevelSteps
pub mod Shown
pub mod Climbing
pub mod CellSteps
pub mod StageSteps
pub mod Digits
pub mod Reading
pub mod Early
pub mod Assembled
pub mod Whole
pub mod Samples
pub mod Stated
pub mod GroundStated
mod DomainSteps

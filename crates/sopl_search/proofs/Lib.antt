mod Numbers
mod Parts
mod Drawing
mod Picking
mod Resting
mod Followed
mod Entering
mod BestEnds
mod Taken
pub mod MoreRows
pub mod MovedNodes
pub mod Sound
pub mod AllTaken
pub mod OpenTexts
mod Known
mod Points
mod Swapping
mod NewerLows
mod HalvedBits
mod NextRow
mod Stepping
mod BrokenSteps
mod Footers
mod Settling
pub mod InOrder
pub mod Answered
pub mod RestTexts
pub mod ClosedCrews
pub mod Begun
pub mod Running
pub mod Trees
pub mod Agreeing
pub mod StateSteps
pub mod LowFirst
pub mod TreeLaws

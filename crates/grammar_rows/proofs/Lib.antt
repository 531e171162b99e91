mod RowsPass
mod KindSetLaws
mod Predictive
mod TokensTaken
mod ReadSteps
mod ReadSound
mod ReadNothing
mod ReadComplete
mod ToldApart
mod RowsRead
mod LocalReading
mod LocalItems
mod LocalSecond
mod LocalRows
mod OneValue
pub mod FillingOut
pub mod WholeRows
mod ReadPlans
mod ReadMarks
mod ReadLists
mod ExpressionTies
mod ModelTies
pub mod ModelReading

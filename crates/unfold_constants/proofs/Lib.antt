pub mod Bindings
pub mod Choosing
pub mod Entering
pub mod Steps
pub mod Gathered
pub mod EvaluationAgreement
pub mod Body
pub mod TraversalAgreement
pub mod Growing
pub mod Outcomes
mod Copying
mod Placing

pub mod Forms
pub mod FrontLemmas
pub mod Longest
pub mod Meet
pub mod Outcomes
pub mod RunLemmas
pub mod StepLemmas
pub mod TableLemmas

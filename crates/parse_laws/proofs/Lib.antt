pub mod Prefixes
mod TwoCuts
pub mod PrefixOnce
pub mod RefusalOnce
mod MistakeCodes
mod UnfoldCodes
mod ModelsLeft

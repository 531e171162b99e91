pub mod Drafts
pub mod Mentions
pub mod Globals
pub mod Programs
pub mod Comparisons
pub mod LinearTerms
pub mod Stated
pub mod Laws

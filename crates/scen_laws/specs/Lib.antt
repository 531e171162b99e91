pub mod Laws
pub mod BlockLaws

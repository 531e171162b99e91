pub mod Wide
pub mod Goals

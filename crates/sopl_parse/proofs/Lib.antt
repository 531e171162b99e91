pub mod DeclarationParts
pub mod Parts
pub mod Refused

pub mod Endings
pub mod DeclarationParts
pub mod Faults
pub mod Parts

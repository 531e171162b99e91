pub mod Booleans
pub mod Tests
pub mod Naturals
pub mod Integers
pub mod Sizes
pub mod Options
pub mod Lists

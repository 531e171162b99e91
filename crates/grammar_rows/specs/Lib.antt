pub mod RowReading
pub mod RowTests
pub mod WrongRows
pub mod ReadersOfRows
pub mod RowLaws

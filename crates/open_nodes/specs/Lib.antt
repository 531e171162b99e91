pub mod Ways
pub mod WayLaws
pub mod Walks
pub mod Remade
pub mod Takes
pub mod SeatLaws

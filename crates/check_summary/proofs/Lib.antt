pub mod SetTables
pub mod SummaryParts
pub mod Passing
pub mod Ranges
pub mod Filling
pub mod Arms
pub mod Stored
pub mod Rooms

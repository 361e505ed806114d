pub mod Counts
pub mod Puts
pub mod Ranges
pub mod Pieces
pub mod Whole
pub mod LastRecords
pub mod RecordLengths
pub mod Extents

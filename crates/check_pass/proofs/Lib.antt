pub mod Limits
pub mod Surveying
pub mod Kids
pub mod Judging
pub mod Calls
pub mod ByKind
pub mod Filling
pub mod Clearing

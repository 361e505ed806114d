pub mod Views
pub mod Waits

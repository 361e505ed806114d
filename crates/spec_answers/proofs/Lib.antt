pub mod Questions
pub mod Depth
pub mod Resumed

pub mod Limits
pub mod Surveyed
pub mod Judged
pub mod Passed
pub mod Nodes

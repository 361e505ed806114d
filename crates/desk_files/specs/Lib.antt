pub mod Kept
pub mod Names

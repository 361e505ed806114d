pub mod Steps
pub mod Looks
pub mod Entries

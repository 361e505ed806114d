pub mod Summary
pub mod Rows
pub mod Tables
pub mod Flowed

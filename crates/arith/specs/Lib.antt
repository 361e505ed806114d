pub mod Int
pub mod Operators

pub mod Expressions
pub mod Descending

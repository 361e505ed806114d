pub mod Refs
pub mod Totals

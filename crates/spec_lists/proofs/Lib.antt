pub mod Entries
pub mod Lists
pub mod Samples
pub mod Table

pub mod Activations
pub mod StateWords
pub mod Entries
pub mod Values
pub mod Lists
pub mod Rests

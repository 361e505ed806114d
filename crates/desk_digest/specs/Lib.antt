pub mod Words
pub mod Constants
pub mod Padding
pub mod Sha256

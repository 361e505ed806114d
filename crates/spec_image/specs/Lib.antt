pub mod Sizes
pub mod Layout
pub mod Image
pub mod Decode
pub mod Memory
pub mod Core
pub mod Narrow

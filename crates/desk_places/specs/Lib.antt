pub mod Located
pub mod Extents

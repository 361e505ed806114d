pub mod Looking
pub mod Trees
pub mod Refs

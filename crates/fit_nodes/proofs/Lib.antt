pub mod AcceptedParts
pub mod Sorts
pub mod Refs

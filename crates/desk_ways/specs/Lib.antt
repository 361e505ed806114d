pub mod Ways
pub mod KnownNode
pub mod Follows

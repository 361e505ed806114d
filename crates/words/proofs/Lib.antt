pub mod Blocks
pub mod Moves
pub mod Tests
pub mod Stacks
pub mod Entries
pub mod Samples

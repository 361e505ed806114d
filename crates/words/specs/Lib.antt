pub mod Blocks
pub mod Moves
pub mod Stacks

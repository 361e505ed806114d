pub mod Steps
pub mod Loops
pub mod Calls
pub mod Backs

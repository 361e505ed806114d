pub mod Ending
pub mod Reaching
pub mod Starting
pub mod Resuming
pub mod Tags
pub mod Holding

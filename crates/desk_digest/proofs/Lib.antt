pub mod Words
pub mod Paddings
pub mod Schedules
pub mod Rounds
pub mod Samples

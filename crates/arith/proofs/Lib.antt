pub mod WordInts
pub mod Sums
pub mod Casts
pub mod Divisions
pub mod Shifts
pub mod Numbers
pub mod Gives
pub mod Samples

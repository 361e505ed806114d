pub mod FoundPlaces
pub mod Walk
pub mod Rounds
pub mod Stages
pub mod Passing
pub mod Refusals

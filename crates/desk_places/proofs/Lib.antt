pub mod Holding
pub mod PartExtents
pub mod Records
pub mod Refusals
pub mod Variables

pub mod OperandLaws
pub mod FrameSlots
pub mod Counts
pub mod Walk
pub mod Forms
pub mod Files
pub mod Steps
pub mod Chains

pub mod Operands
pub mod Slots
pub mod Incoming
pub mod Meaning
pub mod StartAnswer

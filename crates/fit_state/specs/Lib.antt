pub mod HoldsState
pub mod Activations
pub mod Meaning
pub mod Running

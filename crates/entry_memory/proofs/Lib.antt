pub mod Questions
pub mod Current

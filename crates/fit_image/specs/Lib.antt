pub mod BlockTests
pub mod MemoryTest

pub mod Tests
pub mod Right

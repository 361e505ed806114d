pub mod Changes
pub mod Records
pub mod Logged
pub mod Answers
pub mod Back

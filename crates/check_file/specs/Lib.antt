pub mod Answers
pub mod Stages

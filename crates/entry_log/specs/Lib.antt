pub mod Replies
pub mod Logs

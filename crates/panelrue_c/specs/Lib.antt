pub mod Packed
pub mod HostAnswers
pub mod HostLogs

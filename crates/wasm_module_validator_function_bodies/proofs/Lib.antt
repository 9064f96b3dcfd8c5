pub mod Limits
pub mod Judged

pub mod Values
pub mod Runs
pub mod Stuck
pub mod Answered

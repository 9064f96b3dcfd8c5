pub mod Written
pub mod Attempts

pub mod Stepping
pub mod Plain
pub mod Meanings
pub mod Continuing
pub mod Describing
pub mod Accessing
pub mod Handling

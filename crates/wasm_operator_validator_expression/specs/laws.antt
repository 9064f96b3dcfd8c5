pub mod Vectors
pub mod Walked
pub mod Ways
pub mod Driven

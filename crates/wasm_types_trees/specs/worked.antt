pub mod Types
pub mod Gates
pub mod Subtypes
pub mod Matches
pub mod Groups

-- Rules: what rows of numbers tell of types, and which rows are written.
pub mod Rows
pub mod Entities
pub mod Types
pub mod Written

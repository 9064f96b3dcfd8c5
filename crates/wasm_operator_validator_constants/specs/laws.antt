pub mod Mapped
pub mod Tested
pub mod Driven
pub mod Operators
pub mod Constants

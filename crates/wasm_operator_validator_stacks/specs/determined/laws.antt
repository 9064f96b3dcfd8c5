pub mod Types
pub mod Same
pub mod Determined
pub mod Usable

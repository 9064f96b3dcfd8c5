pub mod Jumping
pub mod Labels
pub mod Turned

-- Proofs: the rows of operators of this crate.
pub mod Stepping
pub mod Spelled
pub mod Rows
pub mod Frames
pub mod Coded
pub mod Indexed
mod Calling
mod Passing
pub mod Throwing
pub mod Unreaching
mod LateRows
mod Sure

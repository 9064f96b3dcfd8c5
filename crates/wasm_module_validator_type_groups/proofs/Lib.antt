pub mod Parts
pub mod Steps
pub mod Allowed
pub mod Plain
pub mod PlainById
pub mod AsWritten
pub mod Stands
pub mod Outcome
pub mod Added
pub mod Ranges
pub mod Verdict
pub mod AddingSteps
pub mod Runs
pub mod Empty
pub mod WorkedProofs
mod Deep

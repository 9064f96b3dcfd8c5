pub mod OverIds
pub mod Besides
pub mod Knowing
pub mod Depths
pub mod Parts
pub mod Rolling
pub mod Holding
pub mod Adding
pub mod Finding
pub mod Chains
pub mod Alone
pub mod References
pub mod WorkedProofs
mod Ancestry
mod Likeness

pub mod Order
pub mod Bits
pub mod Places
pub mod Remapping

pub mod Noting
pub mod Signing
pub mod Naming
pub mod Each

pub mod Looking
pub mod Parts
pub mod Named
pub mod Continuing
pub mod Switching
pub mod ById

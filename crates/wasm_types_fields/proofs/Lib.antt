pub mod Telling
pub mod Remapping

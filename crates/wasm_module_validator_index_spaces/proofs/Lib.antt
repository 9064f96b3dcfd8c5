pub mod Placing
pub mod Referring

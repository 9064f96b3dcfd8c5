pub mod Tables
pub mod Looking
pub mod Storing
pub mod Leading
pub mod Measuring
pub mod Converting
pub mod Casting

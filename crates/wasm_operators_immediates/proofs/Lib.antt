pub mod Reading
pub mod Passing
pub mod Bytes
pub mod Makers
pub mod Telling
pub mod Equality
pub mod Codes

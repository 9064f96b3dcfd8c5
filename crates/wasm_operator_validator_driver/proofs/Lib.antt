-- What operators on objects and references carry.
pub mod Carried

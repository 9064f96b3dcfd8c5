pub mod ShortReading
pub mod Carried

mod Turns
pub mod Validity
pub mod Whole
pub mod WorkedModule
pub mod WorkedLinked
mod WorkedPart

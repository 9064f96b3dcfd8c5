pub mod Locals
pub mod Trying
pub mod Reading
pub mod Functions
pub mod WorkedLocals

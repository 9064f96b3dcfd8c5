pub mod Drained
pub mod Passed
pub mod Room
pub mod Rows
pub mod Said
pub mod Sizes
pub mod Spelled
pub mod AtOnce

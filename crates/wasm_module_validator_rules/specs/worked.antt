pub mod Trees
pub mod Modules
pub mod Releases
pub mod Bounds
pub mod Items
pub mod Functions
pub mod Bytes

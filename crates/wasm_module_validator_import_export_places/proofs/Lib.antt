pub mod Standing
pub mod Parting
pub mod Reading
-- The start function.
pub mod Starting

-- Worked bytes of bodies.
pub mod Rows

-- Definitions: rows of operators on structs, arrays and references, and what their checks look up.
pub mod Rows
pub mod Found
pub mod Either
pub mod Casts

-- Definitions: what a list of types stores.
pub mod Stored
pub mod Lists
pub mod Rolled
pub mod Beside
pub mod Known
pub mod Depths
pub mod Uniform
-- Definitions: what a contract sees of it.
pub mod Lookups
pub mod List
-- Worked rows.
pub mod Worked

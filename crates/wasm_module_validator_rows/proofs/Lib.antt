-- What is at a place of a list.
pub mod Places
-- Rows that a loop writes.
pub mod Filling
-- The group of a type.
pub mod Grouping
-- The types of a list, one by one.
pub mod Counting
-- Entities and ids, one by one.
pub mod Taking

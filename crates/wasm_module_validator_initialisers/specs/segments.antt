-- Rules: globals, tables and data segments with their constant expressions, which of them are valid, and why others are refused, in
-- the order in which they are read.
pub mod Trees
pub mod Judged
-- Items that their bytes alone tell, with laws.
pub mod Short
pub mod NumberLaws
pub mod ShortLaws
pub mod Refusals
-- Laws of answers and addresses.
pub mod Laws
-- Worked items, a pair for each rule.
pub mod Worked

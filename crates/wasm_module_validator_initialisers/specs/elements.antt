-- Rules: element segments with their constant expressions, which of them are valid, what they name, and why others are refused, in
-- the order in which they are read. `Items` has a decoder too.
pub mod Trees
pub mod Judged
pub mod Items
pub mod Naming
pub mod Refusals
-- Elements that their bytes alone tell.
pub mod Short
-- Worked segments, a pair for each rule.
pub mod Worked

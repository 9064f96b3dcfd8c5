-- Rules: the total of types. All others are those of the crates below.
pub mod Total
-- Rules: items that their bytes alone tell.
pub mod Short
-- Laws of groups as they are read, and of the total.
pub mod GroupLaws
pub mod TotalLaws

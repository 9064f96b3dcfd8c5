-- Rules: the table of features, sets, the inflated form.
pub mod Features
pub mod Sets
pub mod Inflated
-- Laws of every set.
pub mod Laws
-- Worked sets, and the laws that they come out so.
pub mod Rows
pub mod RowLaws
-- Rules: limits, and what a module is judged by.
pub mod Limits
pub mod Settings
-- Worked limits, and the laws that they come out so.
pub mod LimitsRows
pub mod LimitsRowLaws

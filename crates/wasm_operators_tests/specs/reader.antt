-- Worked rows.
pub mod Rows
pub mod StandingRows
pub mod VisitorRows
-- Laws: that they come out so.
pub mod RowLaws
pub mod StandingRowLaws
pub mod VisitorRowLaws

-- Worked rows.
pub mod Edges
pub mod Answers
pub mod Sets
pub mod Reading
pub mod Trees
pub mod Kinds
pub mod Remaps
pub mod Groups
-- Laws: that they come out so.
pub mod EdgeLaws
pub mod AnswerLaws
pub mod SetLaws
pub mod ReadingLaws
pub mod TreeLaws
pub mod KindLaws
pub mod RemapLaws
pub mod GroupLaws

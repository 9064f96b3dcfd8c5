-- Definitions, in reading order.
pub mod InFrame
pub mod Whole
-- Laws.
pub mod InFrameLaws
pub mod WholeLaws

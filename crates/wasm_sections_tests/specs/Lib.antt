-- Worked rows.
pub mod Items
pub mod Frames
pub mod Payloads
-- Laws: that they come out so.
pub mod ItemLaws
pub mod FrameLaws
pub mod PayloadLaws

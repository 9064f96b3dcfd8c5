-- Rules: when the items of a section are added.
pub mod Adding
-- Rules: what the bytes of a body are read by.
pub mod Bodies
-- Laws.
pub mod AddingLaws
pub mod FullLaws

-- Rules: what a call that asks for more bytes says.
pub mod Hints
-- Laws.
pub mod CutLaws
pub mod NeedLaws
pub mod StepNeeds
pub mod HintLaws
-- Worked rows.
pub mod Worked

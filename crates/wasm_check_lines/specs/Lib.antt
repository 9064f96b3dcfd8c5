-- Rules: the causes of refusals and the texts of lines, in reading order. `CauseRows`, `ShownRows` and `FormRows` have worked rows,
-- `LineLaws` laws of the lines.
pub mod Limits
pub mod Causes
pub mod Shown
pub mod Json
pub mod FeatureWords
pub mod Hints
pub mod Explanations
pub mod Forms
pub mod LineLaws
pub mod CauseRows
pub mod ShownRows
pub mod FormRows

-- Rules: what is remembered of sections.
pub mod Remembered
-- Laws: what a step gives is spelled by what it took, and what is spelled is given.
pub mod AnnouncedLaws
pub mod SpelledLaws
pub mod CustomLaws
pub mod BodyLaws
pub mod SectionCases
pub mod StepCases
pub mod StepsComplete
pub mod OrderLaws
pub mod NoteLaws
pub mod CompareLaws

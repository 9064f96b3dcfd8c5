-- worked rows
pub mod Counts
pub mod Answers
pub mod States
pub mod Attempts
pub mod Beginning
pub mod Steps
-- that they hold
pub mod CountLaws
pub mod AnswerLaws
pub mod StateLaws
pub mod AttemptLaws
pub mod BeginningLaws
pub mod StepLaws

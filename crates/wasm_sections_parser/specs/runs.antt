-- Rules: what the frames of a run say of the bytes.
pub mod Modules
-- Laws.
pub mod RunLaws
pub mod RunsComplete
pub mod ModuleLaws
pub mod FrontLaws
pub mod RefusalLaws
-- Worked rows.
pub mod Worked
-- Rules and laws of single frames: each step is spelled, what is spelled is given, what is remembered.
pub mod steps
-- Rules and laws of calls of a parser: what each takes and leaves, and that they are a run.
pub mod calls
-- Rules, laws and worked rows: how many bytes a parser asks for.
pub mod hints

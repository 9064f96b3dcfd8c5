-- Rules: what comes next of the items of a section. `Functions` has decoders too.
pub mod Walking
pub mod Runs
pub mod Functions
-- Laws.
pub mod WalkLaws
pub mod FunctionLaws
-- Worked rows.
pub mod Worked

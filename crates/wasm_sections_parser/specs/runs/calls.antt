-- Rules: runs of a parser and the frames of a module; calls of it.
pub mod Runs
pub mod Calls
-- Laws: what a call takes and where it leaves the parser; calls are a run; a step does not depend on where the data began.
pub mod Advance
pub mod CallLaws
pub mod PlainLaws

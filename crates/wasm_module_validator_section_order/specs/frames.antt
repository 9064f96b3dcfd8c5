-- Definitions: what reads by which settings, and where a walk over a module stands.
pub mod Walks
-- Laws: frames that calls gave come first among those of a module.
pub mod FrontLaws
-- Laws of walks, and of walks whose frames are judged.
pub mod WalkLaws
pub mod JudgedLaws
-- Worked walks.
pub mod Worked
-- Laws: a module is accepted exactly where its frames are judged one by one.
pub mod framed

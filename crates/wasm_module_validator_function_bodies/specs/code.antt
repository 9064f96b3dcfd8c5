-- Rules: which bytes may be a body, and which spell a valid function.
pub mod Code
-- Laws.
pub mod CodeLaws
-- Worked bodies.
pub mod Worked

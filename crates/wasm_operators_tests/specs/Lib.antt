-- Worked rows: every operator beside the list.
pub mod list
-- Worked rows: bytes of operators.
pub mod worked
-- Worked rows: operators on vectors, tellings, iterators.
pub mod reader
-- Worked rows: bytes of bodies.
pub mod bodies

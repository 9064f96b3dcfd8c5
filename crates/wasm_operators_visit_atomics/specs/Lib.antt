-- Rules and laws: the visits that belong to atomic accesses.
pub mod dispatch
-- Rules and laws: visits of atomic accesses to memories.
pub mod atomic
-- Rules and laws: visits of atomic accesses to globals, tables, structs and arrays.
pub mod shared

-- Rules: operators as trees, the tables of opcodes and of immediates, and the order in frames.
pub mod Op
pub mod Table
pub mod Immediates
pub mod Roles
-- Rules: which operators are those on vectors.
pub mod Vectors
-- Worked rows of them.
pub mod RoleRows
-- Laws.
pub mod Laws
pub mod EqualityLaws
-- Rules: the operators of each group, with the trees of those that keep lists, and their rows of the tables of opcodes and of immediates.
pub mod control
pub mod memory
pub mod numbers
pub mod gc
pub mod threads
-- Rules: rows of the tables of opcodes and of immediates.
pub mod VectorsTable
pub mod VectorsImmediates

-- Proofs: the rows of operators of this crate.
mod ArrayRows
mod AtomicRows
mod Branching
mod Casting
mod Clauses
mod Objects
mod Referring
mod Selecting
mod StructRows
mod TableRows
mod VectorCodes
mod VectorRows
mod VectorSpelling

-- Definitions: how the open frames lie in memory.
pub mod Layout
-- Definitions: what lies under others in the innermost frame.
pub mod Peeking
-- Definitions: how many operands there are, and how a frame lies over those around it.
pub mod Heights
-- Worked frames, and the laws that they come out so.
pub mod Worked
pub mod WorkedLaws
-- Definitions: locals that a body declares.
pub mod Defining
-- Laws, with the proofs: what a type that a module writes stands for, and what an attempt leaves.
pub mod laws
-- Rules and laws: how a check is proved where the module determines the operator's type, and what checks share.
pub mod determined
-- Definitions: where the body of a function begins.
pub mod Functions
-- The rules of crates below, under their names: crates above cite them here.
pub use Rattle.wasm_operator_validator_locals.specs as locals
pub use Rattle.wasm_operator_validator_state.specs.resources as resources

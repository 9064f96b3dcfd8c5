-- Rules: what is known, which operators may come, what steps do, and what refusals are, in the order in which they are read.
pub mod Names
pub mod Packed
pub mod Refusals
pub mod State
pub mod Steps
pub mod Entering
pub mod Bodies
-- Laws of the enum for what is known.
pub mod PackedLaws
-- Worked operands and refusals.
pub mod worked
-- Laws, with the proofs: how a visit's promise follows from its steps. `Rows` there has laws of rows of the rules, and no worked ones.
pub mod laws
-- Definitions and worked rows: what an attempt did to the stacks, so that it can be taken back.
pub mod attempts
-- Rules and laws: the types of blocks and functions in a module, as slices of what the module has.
pub mod blocks
-- The rules of crates below, under their names: crates above cite them here.
pub use Rattle.wasm_operator_validator_resources.specs as resources

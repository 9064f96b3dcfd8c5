-- Rules of modules by the features and limits that hold: those of the crate below, under their name.
pub mod limits
-- Definitions: which types of tables, memories, globals and tags are refused.
pub mod externs
-- Definitions: sections that are one number, and calls in turn.
pub mod sections
-- The rules of crates below, under their names: crates above cite them here.
pub use Rattle.wasm_operator_validator_state.specs.resources as operator_resources
pub use Rattle.wasm_module_validator_rules.specs as rules

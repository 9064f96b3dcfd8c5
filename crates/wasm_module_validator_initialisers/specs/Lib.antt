-- Rules and laws: items with constant expressions checked by the rules.
pub mod segments
-- Rules and laws: element segments checked by the rules.
pub mod elements
-- Rules and laws: globals, tables and segments checked over their constants, and added to a module that is being read.
pub mod adding
-- The rules of crates below, under their names: crates above cite them here.
pub use Rattle.wasm_module_validator_resources.specs.index_spaces as index_spaces
pub use Rattle.wasm_operator_validator_constants.specs.expression as operator_expression
pub use Rattle.wasm_module_validator_resources.specs as resources
pub use Rattle.wasm_module_validator_state.specs as state

-- Rules: what is kept of a module that is being read, and when that stands for what was judged.
pub mod Progress
-- Laws, with the proofs.
pub mod laws
-- The rules of crates below, under their names: crates above cite them here.
pub use Rattle.wasm_module_validator_declarations.specs as declarations
pub use Rattle.wasm_module_validator_state.specs as state

-- Rules: what is kept of a module that may be shared, when that stands for what was judged, and what its calls promise.
pub mod Sharing
-- Rules and laws: the bodies of a module whose sections were read, judged.
pub mod judging
-- Rules and laws: a whole module, read section by section.
pub mod reading
-- The rules of crates below, under their names: crates above cite them here.
pub use Rattle.wasm_module_validator_payloads.specs.declarations as declarations
pub use Rattle.wasm_module_validator_payloads.specs as payloads
pub use Rattle.wasm_module_validator_resources.specs as resources
pub use Rattle.wasm_module_validator_payloads.specs.state as state

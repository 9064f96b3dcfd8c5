-- Rules: what is accepted, how far a validator is then, what its methods promise, and which modules have no operators on vectors.
pub mod Shown
pub mod Accepts
pub mod States
pub mod Methods
pub mod Payloads
pub mod Lists
pub mod Parts
pub mod Alone
pub mod Unasked
-- Laws, with the proofs. `StateRows` there has worked rows.
pub mod laws
pub use Rattle.wasm_module_validator_rules.specs as rules
-- Rules and laws: no run of a valid module is stuck.
pub mod soundness
-- The rules of crates below, under their names: crates above cite them here.
pub use Rattle.wasm_module_validator_drivers.specs.declarations as declarations
pub use Rattle.wasm_module_validator_drivers.specs as drivers
pub use Rattle.wasm_module_validator_drivers.specs.payloads as module_validator_payloads
pub use Rattle.wasm_module_validator_drivers.specs.resources as resources
pub use Rattle.wasm_module_validator_drivers.specs.state as state

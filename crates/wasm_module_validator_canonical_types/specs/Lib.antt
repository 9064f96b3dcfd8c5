-- Rules: groups as they are written, and their canonical forms.
pub mod Written
pub mod Canonical
-- Definitions: canonical forms as they are stored, and what is refused.
pub mod Packed
pub mod Refused
-- Worked groups.
pub mod Worked
-- Laws, with the proofs.
pub mod laws
-- Rules and laws: matching of composite types.
pub mod matches
-- The rules of crates below, under their names: crates above cite them here.
pub use Rattle.wasm_module_validator_type_list.specs as type_list

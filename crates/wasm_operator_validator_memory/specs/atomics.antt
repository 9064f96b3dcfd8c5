-- Definitions: which types a check names for an atomic access.
pub mod Atomics

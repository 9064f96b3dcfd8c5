-- Rules: valid types over ids.
pub mod ValidTypes
-- Laws of them, with the proofs.
pub mod laws
-- Rules and laws of composite types.
pub mod composites
-- Definitions and worked rows: groups added to a module.
pub mod adding

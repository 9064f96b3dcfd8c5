-- Rules: valid composite types over ids.
pub mod Composites
-- Laws of them, with the proofs.
pub mod laws

-- Laws, with the proofs.
pub mod laws

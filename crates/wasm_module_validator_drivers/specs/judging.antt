-- Rules: which bodies are those of valid functions of what was read.
pub mod Bodies
-- Laws, with the proofs.
pub mod laws

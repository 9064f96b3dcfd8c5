-- Rules: when bytes are a module that is judged frame by frame.
pub mod Reading
-- Laws, with the proofs.
pub mod laws

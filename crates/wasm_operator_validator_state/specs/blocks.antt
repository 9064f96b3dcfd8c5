-- Rules: what types of functions and blocks mean.
pub mod Signatures

-- Laws of what a module means, with the proofs.
pub mod Bare
pub mod Trees
pub mod Homes
pub mod Settling
pub mod Settled
pub mod Stored
pub mod Alike
pub mod Below
pub mod Places

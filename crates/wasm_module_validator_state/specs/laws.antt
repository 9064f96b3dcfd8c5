-- Laws of a module and its context with an item more, with the proofs.
pub mod Growing
pub mod Reading
pub mod Importing

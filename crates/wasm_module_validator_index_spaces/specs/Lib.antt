-- Rules: what a contract sees of a module that is being read.
pub mod Spaces
-- Rules: what is looked up in a module that was read.
pub mod view

-- Rules: a module as what runs, what its constants come to, its first store, and that it is never stuck, in the order in which they are read.
pub mod Modules
pub mod Constants
pub mod FirstStores
pub mod Soundness
-- Worked runs of modules.
pub mod ModuleWorked
pub mod LinkedWorked

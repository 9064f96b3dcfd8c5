-- Rules: what operators do by their codes, the labels of a branch by a table, and what is not reached.
pub mod Shapes
pub mod Labels
pub mod Unreached
pub mod Late
